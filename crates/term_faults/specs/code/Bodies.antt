-- What the search for the first fault of a term asks and gives.
use Rattle.std.specs.Prelude.{ℕ, suc, ◌≤◌, ◌<◌, List, ◌++◌, ◌≡◌, get_or, length}
use Rattle.forest.specs.Forest.{Forest, nodes_of, none, tree}
use Rattle.forest.specs.code.Cursors.{size}
use Rattle.forest.specs.Tables.{over}
use Rattle.operators.specs.Sorts.{max_width}
use Rattle.words.specs.Trees.{Lexeme}
use Rattle.derivation.specs.code.Tables.{form_table}
use Rattle.term_sorts.specs.code.Forms.{sort_column}
use Rattle.term_sorts.specs.code.Signatures.{Every, RowsAre, SortsAre, function_signature, non_terminal_signature}
use Rattle.lexemes.specs.Lists.{Items}
use Rattle.lexemes.specs.code.Standing.{Source}
use Rattle.lexemes.specs.code.Table.{code_at}
use Rattle.term_nodes.specs.code.Says.{AllSay}
use Rattle.term_nodes.specs.code.Table.{raw_table}
use Rattle.term_nodes.specs.Terms.{Raw, constant, cut, decimal, first_word, number, pattern, raw_term, word}
use Rattle.written_sorts.specs.Written.{sort_of}
use Rattle.names.specs.Scopes.{View, forms_of, named_sorts}
use Rattle.names.specs.code.Lookup.{Bounded, ShortNames}
use Rattle.names.specs.Unknown.{unknown_in}
use Rattle.term_faults.specs.Faults.{body_fault, scope_of, term_fault}
use Rattle.forest.specs.Limits.{most_defined, most_functions, most_non_terminals}

-- What the tables of a text of so many words keep to: numerals, literals and names are within their bounds, and there is no word past the last.
pub record Lawful (s : Source) (nowhere : ℕ) : Type 0 where
  pub bounded : Bounded s
  pub short : ShortNames s
  pub ends : (i : ℕ) → 0 < code_at s.lexemes i → i < nowhere

-- The first words of the nodes rise from `low` on, in the order of the text, and stand before `high`.
unfoldable pub Rising : (low high : ℕ) → Forest Raw → Type 0
Rising low high none = Unit {0}
Rising low high (tree r ops rest) =
    (mid : ℕ) × (low ≤ first_word r) × (first_word r < mid) × (mid ≤ high) × Rising (suc (first_word r)) mid ops × Rising mid high rest

-- The rows of a table hold the signatures of what a view has.
pub record Signed (signatures : List ℕ) (view : View) : Type 0 where
  pub defined_are : RowsAre signatures 0 (scope_of view).terms.defined
  pub functions_are : RowsAre signatures function_signature (scope_of view).terms.functions
  pub non_terminals_are : SortsAre signatures non_terminal_signature (scope_of view).non_terminals
  pub few_defined : length view.defined ≤ most_defined
  pub few_functions : length view.functions ≤ most_functions
  pub few_non_terminals : length view.non_terminals ≤ most_non_terminals

-- The sort of `(Constant σ)` or `(Variable σ)` is at most 64 wide.
abbrev pub NarrowNode : Raw → Type 0
NarrowNode (word at head name) = Unit {0}
NarrowNode (number at v) = Unit {0}
NarrowNode (constant at width v) = Unit {0}
NarrowNode (decimal at head name width) = Unit {0}
NarrowNode (cut at head i j) = Unit {0}
NarrowNode (pattern at c s held) = sort_of s held ≤ max_width

-- Terms of a text, whose names are known and whose sorts are at most 64 wide, and the forms that they say, in tables.
pub record Sought (raw forms signatures column : List ℕ) (count nowhere : ℕ) : Type 0 where
  pub source : Source
  pub lawful : Lawful source nowhere
  pub F : Forest Raw
  pub rest : List ℕ
  pub is_raw : raw ≡ raw_table F ++ rest
  pub counted : count ≡ size F
  pub say : AllSay source F
  pub rising : Rising 0 nowhere F
  pub narrow_nodes : Every NarrowNode F
  pub view : View
  pub narrow_names : (k : ℕ) → get_or (named_sorts view.names) k 0 ≤ max_width
  pub known : unknown_in nowhere view (nodes_of F) ≡ nowhere
  pub more : List ℕ
  pub is_forms : forms ≡ form_table (forms_of view F) ++ more
  pub signed : Signed signatures view
  pub room : count ≤ length column

-- The least word at fault is found, and the sorts of the nodes are filled in.
pub record Found {raw forms signatures column : List ℕ} {count nowhere : ℕ} (p : Sought raw forms signatures column count nowhere)
    (columnAfter : List ℕ) (r : ℕ) : Type 0 where
  pub place_is : r ≡ term_fault nowhere p.view p.F
  pub column_is : columnAfter ≡ over (sort_column (scope_of p.view) (forms_of p.view p.F)) column

-- The term that an item is, and a sort.
pub record BodySought (raw forms signatures column : List ℕ) (count sort nowhere : ℕ) : Type 0 where
  pub sought : Sought raw forms signatures column count nowhere
  pub label : Lexeme
  pub operands : Items
  pub is : sought.F ≡ raw_term label operands
  pub low : sort ≤ max_width

-- The word at fault is found.
abbrev pub BodyFound : {raw forms signatures column : List ℕ} {count sort nowhere : ℕ} → BodySought raw forms signatures column count sort nowhere
    → (r : ℕ) → Type 0
BodyFound {sort = sort} {nowhere = nowhere} p r = r ≡ body_fault nowhere p.sought.view sort p.label p.operands

-- The same, for whatever the tables hold.
abbrev pub Finds : (raw forms signatures column : List ℕ) → (count nowhere : ℕ) → (columnAfter : List ℕ) → (r : ℕ) → Type 0
Finds raw forms signatures column count nowhere columnAfter r = (p : Sought raw forms signatures column count nowhere) → Found p columnAfter r

-- The same, for whatever the tables hold.
abbrev pub FindsInBody : (raw forms signatures column : List ℕ) → (count sort nowhere r : ℕ) → Type 0
FindsInBody raw forms signatures column count sort nowhere r = (p : BodySought raw forms signatures column count sort nowhere) → BodyFound p r

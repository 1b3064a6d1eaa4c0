-- What the tests of new names ask and give.
use Rattle.std.specs.Prelude.{ℕ, ◌+◌, ◌*◌, ◌≤◌, ◌<◌, true, List, ◌++◌, ◌≡◌}
use Rattle.std.proofs.lemmas.List.Edits.{sets}
use Rattle.forest.specs.Forest.{count, none, tree}
use Rattle.forest.specs.Limits.{most_defined, most_functions, most_variables}
use Rattle.operators.specs.Sorts.{max_width}
use Rattle.words.specs.Trees.{Lexeme, word_of}
use Rattle.lexemes.specs.Lists.{Items, inside, is_symbol, item, name_of}
use Rattle.lexemes.specs.code.Standing.{Stands}
use Rattle.shapes.specs.Shapes.{all, pair_shape}
use Rattle.written_sorts.specs.Written.{sort_of}
use Rattle.names.specs.Scopes.{names_of, named_sorts}
use Rattle.names.specs.code.Lookup.{Kept, LowWords, Names, ShortNames, source_of}
use Rattle.names.specs.code.Table.{argument_row, declared_from, defined_row, function_row, name_row, names_from, row_count, row_width, sorts_from, variable_row}
use Rattle.names.specs.Earlier.{declared_names}
use Rattle.names.specs.New.{named_by, new_name, new_pairs}
use Rattle.names.specs.declared.Scope.{Scope}

-- No more names of each kind than their rows.
pub record Few (scope : Scope) : Type 0 where
  pub variables : scope.variables ≤ most_variables
  pub defined : scope.defined ≤ most_defined
  pub functions : scope.functions ≤ most_functions
  pub arguments : scope.first + scope.arguments ≤ row_count

-- The names in scope; in which order they stand makes no difference to whether one is taken.
abbrev pub names_in : (names : List ℕ) → Scope → List (List ℕ)
names_in names scope =
    names_from names scope.first scope.arguments
    ++ names_from names variable_row scope.variables
    ++ names_from names defined_row scope.defined
    ++ names_from names function_row scope.functions

-- A symbol stands at word i, and the table has the names in scope and n more from `row` on.
pub record NewName (text lexemes names : List ℕ) (scope : Scope) (row n i : ℕ) : Type 0 where
  pub label : Lexeme
  pub operands : Items
  pub more : Items
  pub end : ℕ
  pub stands : Stands (source_of text lexemes) i (tree label operands more) end
  pub a_symbol : is_symbol label ≡ true
  pub table : Names names
  pub few : Few scope
  pub fits : row + n ≤ row_count

-- The word at fault is found.
abbrev pub NameTested : {text lexemes names : List ℕ} {scope : Scope} {row n i : ℕ} → NewName text lexemes names scope row n i
    → (nowhere r : ℕ) → Type 0
NameTested {names = names} {scope = scope} {row = row} {n = n} p nowhere r = r ≡ new_name nowhere (names_from names row n ++ names_in names scope) p.label

-- The sorts of pairs are at most 64 wide.
unfoldable pub AllNarrow : (pairs : Items) → Type 0
AllNarrow none = Unit {0}
AllNarrow (tree l ops more) = (sort_of (item 1 ops) (inside 1 ops) ≤ max_width) × AllNarrow more

-- Pairs stand from word i to before word e, the table has the names in scope, and behind and apart from these there is room for the names of the pairs from
-- `row` on.
pub record NewPairs (text lexemes names : List ℕ) (scope : Scope) (row i e : ℕ) : Type 0 where
  pub items : Items
  pub stands : Stands (source_of text lexemes) i items e
  pub shaped : all pair_shape items ≡ true
  pub narrow : AllNarrow items
  pub short : ShortNames (source_of text lexemes)
  pub low_words : LowWords (source_of text lexemes)
  pub table : Names names
  pub few : Few scope
  pub low : argument_row ≤ row
  pub apart : (k : ℕ) → k < scope.arguments → row + count items ≤ scope.first + k
  pub fits : row + count items ≤ row_count

-- The least word at fault is found, and the names and sorts of the pairs stand in the rows from `row` on, with the words at which they are declared.
pub record PairsNamed {text lexemes names : List ℕ} {scope : Scope} {row i e : ℕ} (p : NewPairs text lexemes names scope row i e) (nowhere : ℕ)
    (namesAfter : List ℕ) (r : ℕ) : Type 0 where
  pub place_is : r ≡ new_pairs nowhere (names_in names scope) p.items
  pub table : Names namesAfter
  pub names_are : names_from namesAfter row (count p.items) ≡ names_of (named_by p.items)
  pub sorts_are : sorts_from namesAfter row (count p.items) ≡ named_sorts (named_by p.items)
  pub declared_are : declared_from namesAfter row (count p.items) ≡ declared_names (named_by p.items)
  pub kept : Kept names row (count p.items) namesAfter

-- The same, for whatever the tables hold.
abbrev pub NamesPairs : (text lexemes names : List ℕ) → Scope → (row i e nowhere : ℕ) → (namesAfter : List ℕ) → (r : ℕ) → Type 0
NamesPairs text lexemes names scope row i e nowhere namesAfter r = (p : NewPairs text lexemes names scope row i e) → PairsNamed p nowhere namesAfter r

-- A pair with a sort at most 64 wide stands at word i, and the table has the row.
pub record PairAt (text lexemes names : List ℕ) (row i : ℕ) : Type 0 where
  pub label : Lexeme
  pub operands : Items
  pub more : Items
  pub end : ℕ
  pub stands : Stands (source_of text lexemes) i (tree label operands more) end
  pub shaped : pair_shape label operands ≡ true
  pub narrow : sort_of (item 1 operands) (inside 1 operands) ≤ max_width
  pub short : ShortNames (source_of text lexemes)
  pub low_words : LowWords (source_of text lexemes)
  pub table : Names names
  pub fits : row < row_count

-- The name, its word and the sort of the pair are put into the row.
abbrev pub PairPut : {text lexemes names : List ℕ} {row i : ℕ} → PairAt text lexemes names row i → (namesAfter : List ℕ) → Type 0
PairPut {names = names} {row = row} p namesAfter =
    let name = item 0 p.operands in
    namesAfter ≡ sets names (row_width * row) (name_row (sort_of (item 1 p.operands) (inside 1 p.operands)) (word_of name) (name_of name))

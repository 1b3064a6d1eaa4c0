-- What the tests of the head of a command ask and give.
use Rattle.std.specs.Prelude.{ℕ, ◌+◌, ◌*◌, ◌≤◌, Bool, cond, true, List, [], ◌∷◌, ◌≡◌}
use Rattle.std.proofs.lemmas.List.Edits.{sets}
use Rattle.forest.specs.Forest.{count, tree}
use Rattle.operators.specs.Sorts.{max_width}
use Rattle.words.specs.Trees.{list, word_of}
use Rattle.lexemes.specs.Lists.{Items, inside, is_symbol, item, name_of}
use Rattle.lexemes.specs.code.Standing.{Stands}
use Rattle.shapes.specs.Shapes.{header_shape}
use Rattle.written_sorts.specs.code.Headers.{HeaderAt}
use Rattle.written_sorts.specs.Written.{sort_of}
use Rattle.names.specs.Scopes.{names_of, named_sorts}
use Rattle.names.specs.code.Lookup.{Kept, LowWords, Names, ShortNames, source_of}
use Rattle.names.specs.code.Table.{argument_row, declared_from, defined_row, function_row, name_in, name_row, names_from, own_argument_row, row_width, sorts_from}
use Rattle.names.specs.Earlier.{Declared, declared_names}
use Rattle.names.specs.New.{named_by, new_name}
use Rattle.names.specs.code.New.{AllNarrow, Few, names_in}
use Rattle.names.specs.declared.Scope.{Scope}
use Rattle.headers.specs.Heads.{header_names, header_past}
use Rattle.forest.specs.Limits.{Counts, most_arguments, most_defined, most_functions}

-- The word past a limit in the head of the command at a word is found.
abbrev pub HeadLimited : {lexemes : List ℕ} {i : ℕ} → HeaderAt lexemes i → (counts : Counts) → (nowhere r : ℕ) → Type 0
HeadLimited p counts nowhere r = r ≡ header_past counts nowhere p.here.operands

-- The row of a command's own name: that of a synthesized function, or else of a `define-fun`.
abbrev pub own_row : (synthesized : Bool) → Scope → ℕ
own_row synthesized scope = cond synthesized (function_row + scope.functions) (defined_row + scope.defined)

-- The row of its first argument.
abbrev pub first_row : (synthesized : Bool) → Scope → ℕ
first_row synthesized scope = cond synthesized (own_argument_row scope.functions) argument_row

-- A command with a function's header stands at word i of a text whose names are short; the sorts that it says are at most 64 wide and its arguments at most 8;
-- and the table has the names in scope, with a row for one more.
pub record HeadAt (text lexemes names : List ℕ) (scope : Scope) (synthesized : Bool) (i : ℕ) : Type 0 where
  pub close : ℕ
  pub command : Items
  pub more : Items
  pub end : ℕ
  pub stands : Stands (source_of text lexemes) i (tree (list i close) command more) end
  pub named : is_symbol (item 0 command) ≡ true
  pub long : 4 ≤ count command
  pub shaped : header_shape command ≡ true
  pub narrow : AllNarrow (inside 2 command)
  pub result : sort_of (item 3 command) (inside 3 command) ≤ max_width
  pub few_arguments : count (inside 2 command) ≤ most_arguments
  pub short : ShortNames (source_of text lexemes)
  pub low_words : LowWords (source_of text lexemes)
  pub table : Names names
  pub few : Few scope
  pub no_arguments : scope.arguments ≡ 0
  pub one_more : cond synthesized (scope.functions + 1) (scope.defined + 1) ≤ cond synthesized most_functions most_defined

-- The scope with one more synthesized function, or else one more `define-fun`.
abbrev pub grown_by : (synthesized : Bool) → Scope → Scope
grown_by synthesized scope = record {
  variables = scope.variables;
  defined = cond synthesized scope.defined (scope.defined + 1);
  functions = cond synthesized (scope.functions + 1) scope.functions;
  first = scope.first;
  arguments = scope.arguments;
}

-- The word of the command's own name is found where it is at fault, and the name, its word and the sort of the result are put into its row.
pub record OwnNamed {text lexemes names : List ℕ} {scope : Scope} {synthesized : Bool} {i : ℕ}
    (p : HeadAt text lexemes names scope synthesized i) (nowhere : ℕ) (namesAfter : List ℕ) (r : ℕ) : Type 0 where
  pub place_is : r ≡ new_name nowhere (names_in names scope) (item 1 p.command)
  pub is_put : let name = item 1 p.command in
      let row = name_row (sort_of (item 3 p.command) (inside 3 p.command)) (word_of name) (name_of name) in
      namesAfter ≡ sets names (row_width * own_row synthesized scope) row

-- The same, for whatever the tables hold.
abbrev pub NamesOwn : (text lexemes names : List ℕ) → Scope → (synthesized : Bool) → (i nowhere : ℕ) → (namesAfter : List ℕ) → (r : ℕ) → Type 0
NamesOwn text lexemes names scope synthesized i nowhere namesAfter r = (p : HeadAt text lexemes names scope synthesized i) → OwnNamed p nowhere namesAfter r

-- A command's own name, and the word of it.
abbrev pub declared_own : (command : Items) → Declared
declared_own command = record { name = name_of (item 1 command); at = word_of (item 1 command) }

-- The least word at fault is found; the command's own name and its arguments stand in their rows, with their words, and the other rows are what they were.
pub record HeadNamed {text lexemes names : List ℕ} {scope : Scope} {synthesized : Bool} {i : ℕ}
    (p : HeadAt text lexemes names scope synthesized i) (nowhere : ℕ) (namesAfter : List ℕ) (r : ℕ) : Type 0 where
  pub place_is : r ≡ header_names nowhere (names_in names scope) p.command
  pub table : Names namesAfter
  pub name_is : name_in namesAfter (own_row synthesized scope) ≡ name_of (item 1 p.command)
  pub names_are : names_from namesAfter (first_row synthesized scope) (count (inside 2 p.command)) ≡ names_of (named_by (inside 2 p.command))
  pub sorts_are : sorts_from namesAfter (first_row synthesized scope) (count (inside 2 p.command)) ≡ named_sorts (named_by (inside 2 p.command))
  pub own_declared : declared_from namesAfter (own_row synthesized scope) 1 ≡ declared_own p.command ∷ []
  pub declared_are : declared_from namesAfter (first_row synthesized scope) (count (inside 2 p.command)) ≡ declared_names (named_by (inside 2 p.command))
  pub between : List ℕ
  pub kept_name : Kept names (own_row synthesized scope) 1 between
  pub kept_arguments : Kept between (first_row synthesized scope) (count (inside 2 p.command)) namesAfter

-- The same, for whatever the tables hold.
abbrev pub NamesHead : (text lexemes names : List ℕ) → Scope → (synthesized : Bool) → (i nowhere : ℕ) → (namesAfter : List ℕ) → (r : ℕ) → Type 0
NamesHead text lexemes names scope synthesized i nowhere namesAfter r = (p : HeadAt text lexemes names scope synthesized i) → HeadNamed p nowhere namesAfter r

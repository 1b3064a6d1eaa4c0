-- What the functions of the command `declare-var` ask and give.
use Rattle.std.specs.Prelude.{ℕ, ◌+◌, ◌*◌, ◌≤◌, ◌<◌, min, true, false, List, ◌≡◌}
use Rattle.std.proofs.lemmas.List.Edits.{sets}
use Rattle.forest.specs.Forest.{tree}
use Rattle.operators.specs.Sorts.{max_width}
use Rattle.words.specs.Trees.{list, word_of}
use Rattle.lexemes.specs.Lists.{Items, inside, is_list, item, name_of}
use Rattle.lexemes.specs.code.Standing.{Stands}
use Rattle.shapes.specs.Shapes.{declare_var_shape}
use Rattle.written_sorts.specs.code.Places.{SortAt}
use Rattle.written_sorts.specs.Written.{sort_of, sort_place}
use Rattle.written_sorts.specs.declared.Fault.TheVariants.{TooWide, Unknown}
use Rattle.forest.specs.Limits.{allowed}
use Rattle.names.specs.code.Lookup.{LowWords, Names, ShortNames, source_of}
use Rattle.names.specs.code.Table.{name_row, row_count, row_width}
use Rattle.names.specs.New.{new_name}
use Rattle.script.specs.Limits.{command_past}
use Rattle.script.specs.Script.{scope}
use Rattle.script.specs.code.Tables.{After, CommandOf, NamesHold, Tested}
use Rattle.script.specs.code.Answers.{name_answer}
use Rattle.script.specs.code.Taken.{VariableTaken}
use Rattle.script.specs.declared.Command.{Command}
use Rattle.script.specs.declared.Progress.{Progress}
use Rattle.script.specs.declared.Verdict.{Verdict}

-- A `declare-var`, and the table of names.
pub record Declaring (text lexemes names : List ℕ) (p : Progress) (i nowhere : ℕ) : Type 0 where
  pub of : CommandOf "declare-var" text lexemes p i nowhere
  pub names_hold : NamesHold names of.known

-- The command is tested, and where it passes, its name is known; where its name is taken, the table has what tells by which.
pub record Declared {text lexemes names : List ℕ} {p : Progress} {i nowhere : ℕ} (d : Declaring text lexemes names p i nowhere)
    (namesAfter : List ℕ) (v : Verdict) : Type 0 where
  pub verdict_is : Tested d.of v
  pub names_hold : v.number ≡ 0 → NamesHold namesAfter (After d.of)
  pub taken : v.number ≡ name_answer → VariableTaken namesAfter p d.of.known d.of.here.command

-- The same, for whatever stands there.
abbrev pub Declares : (text lexemes names : List ℕ) → Command → (namesAfter : List ℕ) → Verdict → Type 0
Declares text lexemes names c namesAfter v = (d : Declaring text lexemes names c.progress c.at c.nowhere) → Declared d namesAfter v

-- The word past a limit is found.
abbrev pub LimitFound : {lexemes : List ℕ} {i : ℕ} → SortAt lexemes i → (variables at nowhere r : ℕ) → Type 0
LimitFound s variables at nowhere r =
    r ≡ min (command_past nowhere allowed.variables variables at) (sort_place TooWide nowhere s.here.label s.here.operands)

-- The same, for whatever sort stands there.
abbrev pub FindsLimit : (lexemes : List ℕ) → (variables at nowhere r : ℕ) → Type 0
FindsLimit lexemes variables at nowhere r = (s : SortAt lexemes (at + 3)) → LimitFound s variables at nowhere r

-- The word of a name at fault is found.
abbrev pub NameFound : {text lexemes names : List ℕ} {p : Progress} {i nowhere : ℕ} → Declaring text lexemes names p i nowhere → (r : ℕ) → Type 0
NameFound {nowhere = nowhere} d r =
    let c = d.of.here.command in
    r ≡ min (new_name nowhere (scope d.of.known) (item 1 c)) (sort_place Unknown nowhere (item 2 c) (inside 2 c))

-- The same, for whatever stands there.
abbrev pub FindsName : (text lexemes names : List ℕ) → Command → (r : ℕ) → Type 0
FindsName text lexemes names c r = (d : Declaring text lexemes names c.progress c.at c.nowhere) → NameFound d r

-- A `declare-var` stands at word i.
pub record VariableAt (text lexemes : List ℕ) (i : ℕ) : Type 0 where
  pub close : ℕ
  pub command : Items
  pub more : Items
  pub end : ℕ
  pub stands : Stands (source_of text lexemes) i (tree (list i close) command more) end
  pub a_word : is_list (item 0 command) ≡ false
  pub shaped : declare_var_shape command ≡ true

-- A `declare-var` with a sort that is not too wide, in a text whose names are short; and the table has the row.
pub record Adding (text lexemes names : List ℕ) (row i : ℕ) : Type 0 where
  pub here : VariableAt text lexemes i
  pub narrow : sort_of (item 2 here.command) (inside 2 here.command) ≤ max_width
  pub short : ShortNames (source_of text lexemes)
  pub low_words : LowWords (source_of text lexemes)
  pub table : Names names
  pub fits : row < row_count

-- The variable, its word and its sort are put into the row.
abbrev pub Added : {text lexemes names : List ℕ} {row i : ℕ} → Adding text lexemes names row i → (namesAfter : List ℕ) → Type 0
Added {names = names} {row = row} a namesAfter =
    let c = a.here.command in
    namesAfter ≡ sets names (row_width * row) (name_row (sort_of (item 2 c) (inside 2 c)) (word_of (item 1 c)) (name_of (item 1 c)))

-- The same, for whatever stands there.
abbrev pub Adds : (text lexemes names : List ℕ) → (row i : ℕ) → (namesAfter : List ℕ) → Type 0
Adds text lexemes names row i namesAfter = (a : Adding text lexemes names row i) → Added a namesAfter

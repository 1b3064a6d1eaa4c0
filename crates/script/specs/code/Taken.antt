-- What the table of names has where a command's new name is taken: the names that are known before it, and its new names, each with the place of its declaration.
use Rattle.std.specs.Prelude.{ℕ, ◌+◌, List, ◌≡◌}
use Rattle.forest.specs.Forest.{count}
use Rattle.lexemes.specs.Lists.{Items, inside}
use Rattle.names.specs.code.Earlier.{Listing, new_rows}
use Rattle.names.specs.code.Table.{argument_row, defined_row, function_row, own_argument_row, variable_row}
use Rattle.names.specs.declared.Scope.{Scope}
use Rattle.script.specs.Script.{Known, new_names}
use Rattle.script.specs.code.Tables.{PlacedNames}
use Rattle.script.specs.declared.Progress.{Progress}

-- The names in scope within a command, which has so many arguments from row `first` on.
abbrev pub scope_within : Progress → (first arguments : ℕ) → Scope
scope_within p first arguments =
    record { variables = p.variables; defined = p.defined; functions = p.functions; first = first; arguments = arguments }

-- The new names of command c stand in their rows: its own in row `own`, its arguments from row `first` on, and as many non-terminals as it lists.
pub record TakenAt (names : List ℕ) (p : Progress) (k : Known) (c : Items) (own first arguments listed : ℕ) : Type 0 where
  pub listing : Listing names (scope_within p first arguments) own listed
  pub placed : PlacedNames names k
  pub new_are : new_rows names (scope_within p first arguments) own listed ≡ new_names c

-- Those of a `declare-var`.
abbrev pub VariableTaken : (names : List ℕ) → Progress → Known → Items → Type 0
VariableTaken names p k c = TakenAt names p k c (variable_row + p.variables) argument_row 0 0

-- Those of a `define-fun`.
abbrev pub DefinitionTaken : (names : List ℕ) → Progress → Known → Items → Type 0
DefinitionTaken names p k c = TakenAt names p k c (defined_row + p.defined) argument_row (count (inside 2 c)) 0

-- Those of a `synth-fun`.
abbrev pub FunctionTaken : (names : List ℕ) → Progress → Known → Items → Type 0
FunctionTaken names p k c =
    TakenAt names p k c (function_row + p.functions) (own_argument_row p.functions) (count (inside 2 c)) (count (inside 4 c))

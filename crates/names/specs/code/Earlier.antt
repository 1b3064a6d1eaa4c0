-- What the look-up of the earlier declaration of a name that is taken asks and gives.
use Rattle.std.specs.Prelude.{ℕ, zero, suc, ◌+◌, ◌≤◌, ◌<◌, cond, ◌&&◌, List, ◌++◌, Option, None, Some, eqb, ltb}
use Rattle.std.specs.Option.{option_or}
use Rattle.forest.specs.Limits.{most_non_terminals}
use Rattle.forest.specs.Lists.{same_bytes}
use Rattle.names.specs.Earlier.{Declared}
use Rattle.names.specs.code.Lookup.{Names}
use Rattle.names.specs.code.New.{Few}
use Rattle.names.specs.code.Table.{declared_from, defined_row, function_row, name_in, non_terminal_row, row_count, variable_row, word_in}
use Rattle.names.specs.declared.Scope.{Scope}

-- The rows of the new names of a command: its own, its arguments, and its non-terminals.
abbrev pub new_rows : (names : List ℕ) → Scope → (own listed : ℕ) → List Declared
new_rows names scope own listed =
    declared_from names own 1 ++ declared_from names scope.first scope.arguments ++ declared_from names non_terminal_row listed

-- The rows of the names in scope before it.
abbrev pub old_rows : (names : List ℕ) → Scope → List Declared
old_rows names scope =
    declared_from names variable_row scope.variables ++ declared_from names defined_row scope.defined ++ declared_from names function_row scope.functions

-- All of them.
abbrev pub all_rows : (names : List ℕ) → Scope → (own listed : ℕ) → List Declared
all_rows names scope own listed = old_rows names scope ++ new_rows names scope own listed

-- The table has rows for them.
pub record Listing (names : List ℕ) (scope : Scope) (own listed : ℕ) : Type 0 where
  pub table : Names names
  pub few : Few scope
  pub own_fits : own < row_count
  pub few_listed : listed ≤ most_non_terminals

-- The first row, of n from row r on, whose name is declared at word w.
unfoldable pub row_for : (names : List ℕ) → (r n w : ℕ) → Option ℕ
row_for names r zero w = None
row_for names r (suc n) w = cond (eqb (word_in names r) w) (Some r) (row_for names (r + 1) n w)

-- The row of the new name that is declared at word w.
abbrev pub new_row : (names : List ℕ) → Scope → (own listed w : ℕ) → Option ℕ
new_row names scope own listed w =
    option_or (option_or (row_for names own 1 w) (row_for names scope.first scope.arguments w)) (row_for names non_terminal_row listed w)

-- The word at which the name in row r is declared, where it is spelt n and declared before word w; else 0.
abbrev pub before_in : (names : List ℕ) → (r : ℕ) → (n : List ℕ) → (w : ℕ) → ℕ
before_in names r n w = cond (same_bytes (name_in names r) n && ltb (word_in names r) w) (word_in names r) 0

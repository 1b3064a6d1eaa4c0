-- A scope with a command's own name in it: how many names it has, and which.
use Prim.Native.Nat.{ℕ, ◌+◌, ◌≤◌}
use native.Mathlib.Omega.{arith}
use mathlib.Core.Path.{◌≡◌, sym, ap, ◌∙◌}
use mathlib.Core.Bool.{Bool, true, false, cond}
use mathlib.Core.List.{List, [], ◌∷◌, ◌++◌, append_assoc, append-nil}
use Rattle.forest.specs.Limits.{most_arguments, most_defined, most_functions}
use Rattle.names.specs.Scopes.{is_named}
use Rattle.names.specs.code.Lookup.{Kept}
use Rattle.names.specs.code.Table.{argument_row, defined_row, function_row, name_in, names_from, row_count, variable_row}
use Rattle.names.proofs.NamePut.{last_row}
use Rattle.names.specs.code.New.{Few, names_in}
use Rattle.names.specs.declared.Scope.{Scope}
use Rattle.names.proofs.Members.{SameNames, name_between}
use Rattle.headers.specs.code.Heads.{first_row, grown_by, own_row}

-- There is a row for one more name.
abbrev OneMore : (synthesized : Bool) → Scope → Type 0
OneMore synthesized scope = cond synthesized (scope.functions + 1) (scope.defined + 1) ≤ cond synthesized most_functions most_defined

-- The rows of a command's arguments stand behind that of its own name and behind those of functions, and there are eight of them.
pub record Rows (synthesized : Bool) (scope : Scope) : Type 0 where
  pub behind_own : own_row synthesized scope + 1 ≤ first_row synthesized scope
  pub behind_functions : argument_row ≤ first_row synthesized scope
  pub eight : first_row synthesized scope + most_arguments ≤ row_count

module _ {scope : Scope} (few : Few scope) where
  -- there are such rows
  pub rows : (synthesized : Bool) → OneMore synthesized scope → Rows synthesized scope
  rows true h = record { behind_own = omega arith; behind_functions = omega arith; eight = omega arith }
  rows false h = record { behind_own = omega arith; behind_functions = omega arith; eight = omega arith }

  -- the names are no more than their rows
  pub few_grown : (synthesized : Bool) → OneMore synthesized scope → Few (grown_by synthesized scope)
  few_grown true h = record { variables = few.variables; defined = few.defined; functions = h; arguments = few.arguments }
  few_grown false h = record { variables = few.variables; defined = h; functions = few.functions; arguments = few.arguments }

  -- they are those that were in scope, and the command's own
  pub same_names : scope.arguments ≡ 0 → (synthesized : Bool) → OneMore synthesized scope
      → {names between : List ℕ} → Kept names (own_row synthesized scope) 1 between → {name : List ℕ} → name_in between (own_row synthesized scope) ≡ name
      → SameNames (names_in between (grown_by synthesized scope)) (name ∷ names_in names scope)
  unfolding names_from
  same_names no_arguments true h {names} {between} kept {name} e =
      let v = few.variables in
      let d = few.defined in
      let variables = (kept.rows_before variable_row scope.variables (omega arith)).names in
      let defined = (kept.rows_before defined_row scope.defined (omega arith)).names in
      let functions = (kept.rows_before function_row scope.functions (omega arith)).names in
      let last = (last_row between function_row scope.functions).name in
      let whole = names_in names scope in
      let front = names_from names variable_row scope.variables ++ names_from names defined_row scope.defined in
      let is : names_in between (grown_by true scope) ≡ whole ++ name ∷ [] ++ [] =
      rw (no_arguments, variables, defined, last, functions, e, append-nil)
      (sym (append_assoc front (names_from names function_row scope.functions) (name ∷ []))) in
      λ n. ap (λ (l : List (List ℕ)). is_named l n) is ∙ sym (name_between whole [] name n) ∙ rw append-nil
  same_names no_arguments false h {names} {between} kept {name} e =
      let v = few.variables in
      let variables = (kept.rows_before variable_row scope.variables (omega arith)).names in
      let defined = (kept.rows_before defined_row scope.defined (omega arith)).names in
      let last = (last_row between defined_row scope.defined).name in
      let functions = (kept.rows_behind function_row scope.functions (omega arith)).names in
      let front = names_from names variable_row scope.variables ++ names_from names defined_row scope.defined in
      let behind = names_from names function_row scope.functions in
      let is : names_in between (grown_by false scope) ≡ front ++ name ∷ [] ++ behind =
      rw (no_arguments, variables, last, defined, functions, e) (ap (λ (l : List (List ℕ)). l ++ behind)
      (sym (append_assoc (names_from names variable_row scope.variables) (names_from names defined_row scope.defined) (name ∷ [])))) in
      λ n. ap (λ (l : List (List ℕ)). is_named l n) is ∙ sym (name_between front behind name n) ∙ rw no_arguments

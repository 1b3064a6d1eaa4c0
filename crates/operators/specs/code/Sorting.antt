-- What the functions that test sorts give.
use Rattle.std.specs.Prelude.{ℕ, Bool, true, false}
use Rattle.std.proofs.Math.Option.{Option, none as nothing, some}
use Rattle.operators.specs.Sorts.{SortRule, choice, cutting, equality, joining, logic, order, width}

-- Whether there is a sort.
abbrev pub has_sort : Option ℕ → Bool
has_sort nothing = false
has_sort (some s) = true

-- How many operands a rule looks at by itself, besides asking whether all others are of one sort.
abbrev pub least_operands : SortRule → ℕ
least_operands logic = 0
least_operands equality = 1
least_operands choice = 2
least_operands width = 1
least_operands order = 1
least_operands joining = 2
least_operands cutting = 1

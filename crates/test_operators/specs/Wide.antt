-- What the program asks where an operator has more than two operands of one sort.
use Rattle.std.specs.Prelude.{◌≡◌, ℕ, ◌<◌, ◌≤◌, true, List, ◌∷◌}
use Rattle.std.proofs.Math.Option.{some}
use Rattle.operators.specs.Operators.{operator_at, operator_count, takes}
use Rattle.operators.specs.Sorts.{all_are, bool, max_width, sort_by}

-- As many operands as the program makes.
abbrev pub most_operands : ℕ
most_operands = 6

-- An operator that takes so many operands, which may have the sort.
pub record Wide (operator sort : ℕ) : Type 0 where
  pub known : operator < operator_count
  pub taken : takes (operator_at operator) most_operands ≡ true
  pub within : sort ≤ max_width
  pub sorted : (more : List ℕ) → all_are sort more ≡ true → sort_by (operator_at operator).rule 0 0 (sort ∷ more) ≡ some bool

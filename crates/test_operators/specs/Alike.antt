-- What the program asks where an operator has one operand, or two of one sort.
use Rattle.std.specs.Prelude.{◌≡◌, ℕ, ◌<◌, true, ◌||◌, List, ◌∷◌, ◌==◌}
use Rattle.std.proofs.Math.Option.{some}
use Rattle.operators.specs.Operators.{operator_at, operator_count}
use Rattle.operators.specs.Sorts.{Fit, all_are, sort_by}

-- An operator of one or two operands, which gives operands of the sort a sort, and two values of it.
pub record Alike (operator sort one two : ℕ) : Type 0 where
  pub known : operator < operator_count
  pub counted : ((operator_at operator).operands == 1 || (operator_at operator).operands == 2) ≡ true
  pub result : ℕ
  pub sorted : (more : List ℕ) → all_are sort more ≡ true → sort_by (operator_at operator).rule 0 0 (sort ∷ more) ≡ some result
  pub first : Fit sort one
  pub second : Fit sort two

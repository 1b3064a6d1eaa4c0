-- The numbers of an answer are those of the table.
use Prim.Native.Nat.{ℕ, ◌≤◌}
use native.Mathlib.Omega.{arith}
use mathlib.Core.List.{List}
use Rattle.script.proofs.Numbers.{response_row_number, script_row_number}
use Rattle.outcome.specs.Checked.{Checked}
use Rattle.outcome.specs.Table.{AnswerRow, LengthOf, accepted, bad_points, budget_ended, constraint_false, no_derivation, of_response, of_script}
use Rattle.outcome.specs.Table.{of_the_area, of_the_points, of_the_response, of_the_script, too_long}
use Rattle.outcome.specs.declared.Outcome.{Outcome}
use Rattle.outcome.proofs.Table.{table}

module _ {script response points area : List ℕ} where
  -- A length is that of one of the four.
  four : {text place : ℕ} → LengthOf script response points area text place → text ≤ 3
  four of_the_script = omega arith
  four of_the_response = omega arith
  four of_the_points = omega arith
  four of_the_area = omega arith

  -- A row has a number to 16, and speaks of one of the four texts.
  row_small : {o : Outcome} → AnswerRow script response points area o → (o.number ≤ 16) × (o.text ≤ 3)
  row_small (accepted s e h) = omega arith
  row_small (too_long is) = omega (arith, four is)
  row_small (of_script r) = let h = script_row_number r in omega arith
  row_small (of_response r) = let h = response_row_number r in omega arith
  row_small (no_derivation s a h) = omega arith
  row_small (constraint_false s n) = omega arith
  row_small (budget_ended s e h n) = omega arith
  row_small (bad_points s e h) = omega arith

-- "one answer from the table in document 01": a number to 16, of one of "0 script, 1 response, 2 points, 3 none or the area".
pub numbers_small : {script response points : List ℕ} {budget : ℕ} {area : List ℕ} {o : Outcome} {a w : List ℕ}
    → Checked script response points budget area o a w → (o.number ≤ 16) × (o.text ≤ 3)
numbers_small c = row_small (table c)

-- A run leaves no more than the budget.
use Prim.Native.Nat.{ℕ, zero, suc, ◌+◌, ◌-◌, ◌≤◌}
use native.Mathlib.Omega.{arith}
use native.Mathlib.Nat.{le_trans}
use mathlib.Core.Bool.{Bool, true, false, cond}
use mathlib.Core.List.{List, [], ◌∷◌}
use lib.Dec.{leb}
use Rattle.terms.specs.Costs.{cost_of}
use Rattle.terms.specs.Labels.{Terms}
use Rattle.terms.specs.Sorts.{Definition}
use Rattle.terms.specs.Values.{values_at}
use Rattle.terms.specs.declared.Value.{Value}
use Rattle.evaluation.specs.Points.{point_at}
use Rattle.evaluation.specs.Running.{all_passed, is_true_value, left_of, run, run_point, run_points, run_terms, skipping}
use Rattle.evaluation.specs.declared.Ran.{Ran}
use Rattle.evaluation.specs.declared.Ran.TheVariants.{Ended, False, Passed}
use Rattle.evaluation.specs.declared.Run.{Run}
use Rattle.forest.specs.Limits.{first_assumption}

-- A run leaves no more than there was.
record Leaves (left : ℕ) (ran : Ran) : Type 0 where
  most : left_of ran ≤ left

-- So does one of two such runs.
either_leaves : (test : Bool) {one other : Ran} {left : ℕ} → Leaves left one → Leaves left other → Leaves left (cond test one other)
either_leaves true h g = h
either_leaves false h g = g

-- So does what one of two such runs over points ends with.
either_run_leaves : (test : Bool) (one other : Run) {left : ℕ} → Leaves left one.ran → Leaves left other.ran → Leaves left (cond test one other).ran
either_run_leaves true one other h g = h
either_run_leaves false one other h g = g

-- So does a run at whose false assumption the point is skipped.
skipping_leaves : (ran : Ran) {left : ℕ} → Leaves left ran → Leaves left (skipping ran)
skipping_leaves (Passed left) h = record { most = h.most }
skipping_leaves (False p k left) h = record { most = h.most }
skipping_leaves (Ended p k left) h = record { most = h.most }

-- It leaves no more than what is more.
leaves_more : {less more : ℕ} {ran : Ran} → less ≤ more → Leaves less ran → Leaves more ran
leaves_more h l = record { most = le_trans l.most h }

module _ (defs funs : List Definition) where
  -- Terms that are run at a point leave no more than there was.
  terms_leave : (point : List Value) (ts : List Terms) (p k left : ℕ) → Leaves left (run_terms defs funs point ts p k left)
  unfolding run_terms
  terms_leave point [] p k left = record { most = omega arith }
  terms_leave point (t ∷ more) p k left =
      let cost = cost_of defs funs t in
      let less : left - cost ≤ left = omega arith in
      let later = leaves_more less (terms_leave point more p (k + 1) (left - cost)) in
      either_leaves (leb cost left) (either_leaves (is_true_value (values_at defs funs point t)) later (record { most = less })) (record { most = omega arith })

  -- So do the terms of a point.
  point_leaves : (point : List Value) (assumptions constraints : List Terms) (p left : ℕ)
      → Leaves left (run_point defs funs point assumptions constraints p left).ran
  unfolding run_point
  point_leaves point assumptions constraints p left =
      let assumed = run_terms defs funs point assumptions p first_assumption left in
      let here = run_terms defs funs point constraints p 0 (left_of assumed) in
      let left_there = terms_leave point assumptions p first_assumption left in
      either_run_leaves (all_passed assumed) (run 1 here) (run 0 (skipping assumed))
      (leaves_more left_there.most (terms_leave point constraints p 0 (left_of assumed)))
      (skipping_leaves assumed left_there)

  -- So do points.
  points_leave : (sorts numbers : List ℕ) (assumptions constraints : List Terms) (n p held left : ℕ)
      → Leaves left (run_points defs funs sorts numbers assumptions constraints n p held left).ran
  unfolding run_points
  points_leave sorts numbers assumptions constraints zero p held left = record { most = omega arith }
  points_leave sorts numbers assumptions constraints (suc n) p held left =
      let here = run_point defs funs (point_at sorts numbers p) assumptions constraints p left in
      let later = run_points defs funs sorts numbers assumptions constraints n (p + 1) (held + here.held) (left_of here.ran) in
      let left_here = point_leaves (point_at sorts numbers p) assumptions constraints p left in
      either_run_leaves (all_passed here.ran) later (run (held + here.held) here.ran)
      (leaves_more left_here.most (points_leave sorts numbers assumptions constraints n (p + 1) (held + here.held) (left_of here.ran)))
      left_here

  -- What the run over points leaves is at most the budget.
  pub points_left : (sorts numbers : List ℕ) (assumptions constraints : List Terms) (n p held budget : ℕ)
      → left_of (run_points defs funs sorts numbers assumptions constraints n p held budget).ran ≤ budget
  points_left sorts numbers assumptions constraints n p held budget = (points_leave sorts numbers assumptions constraints n p held budget).most

-- The evaluation: "for each point, each constraint in script order; the first false one ends the work with answer 14. One whose cost exceeds
-- what the budget has left isn't begun."; and before the constraints of a point its assumptions (E1).
use Rattle.std.specs.Prelude.{ℕ, zero, suc, ◌+◌, ◌-◌, Bool, true, false, cond, ◌&&◌, List, [], ◌∷◌, eqb, leb}
use Rattle.operators.specs.Sorts.{bool}
use Rattle.std.proofs.Math.Option.{Option, none as nothing, some}
use Rattle.terms.specs.Costs.{cost_of}
use Rattle.terms.specs.Labels.{Terms}
use Rattle.terms.specs.Sorts.{Definition}
use Rattle.terms.specs.Values.{values_at}
use Rattle.terms.specs.declared.Value.{Value}
use Rattle.evaluation.specs.Points.{point_at}
use Rattle.forest.specs.Limits.{first_assumption}
use Rattle.evaluation.specs.declared.Ran.{Ran}
use Rattle.evaluation.specs.declared.Ran.TheVariants.{Passed, False, Ended}
use Rattle.evaluation.specs.declared.Run.{Run}

-- Whether a term's value is true: it has one value, which is the Bool 1.
unfoldable pub is_true_value : Option (List Value) → Bool
is_true_value nothing = false
is_true_value (some []) = false
is_true_value (some (v ∷ [])) = eqb v.sort bool && eqb v.number 1
is_true_value (some (v ∷ u ∷ more)) = false

-- The terms from number k on, one after the other, at a point, with `left` of the budget: what is left once all are true; or the first that is
-- false, with what is left once it is evaluated; or the first whose cost exceeds what is left, with what is left before it.
unfoldable pub run_terms : (defs funs : List Definition) → (point : List Value) → List Terms → (p k left : ℕ) → Ran
run_terms defs funs point [] p k left = Passed left
run_terms defs funs point (t ∷ more) p k left =
    let cost = cost_of defs funs t in
    let later = run_terms defs funs point more p (k + 1) (left - cost) in
    cond (leb cost left) (cond (is_true_value (values_at defs funs point t)) later (False p k (left - cost))) (Ended p k left)

-- What is left of the budget.
abbrev pub left_of : Ran → ℕ
left_of (Passed left) = left
left_of (False p k left) = left
left_of (Ended p k left) = left

-- Whether all terms were true.
abbrev pub all_passed : Ran → Bool
all_passed (Passed left) = true
all_passed (False p k left) = false
all_passed (Ended p k left) = false

-- What a false assumption leaves: it "skips the point's constraints" (E1), and the run goes on.
abbrev pub skipping : Ran → Ran
skipping (Passed left) = Passed left
skipping (False p k left) = Passed left
skipping (Ended p k left) = Ended p k left

-- A run that ends with `ran`, where all assumptions held at so many points.
abbrev pub run : (held : ℕ) → Ran → Run
run held ran = record { held = held; ran = ran }

-- A point. "At each point the assumptions are evaluated first, in script order, up to the first false one, which skips the point's constraints." "Answer 15
-- numbers assumptions from 64." (E1)
unfoldable pub run_point : (defs funs : List Definition) → (point : List Value) → (assumptions constraints : List Terms) → (p left : ℕ) → Run
run_point defs funs point assumptions constraints p left =
    let assumed = run_terms defs funs point assumptions p first_assumption left in
    let here = run_terms defs funs point constraints p 0 (left_of assumed) in
    cond (all_passed assumed) (run 1 here) (run 0 (skipping assumed))

-- The terms at n points more, from point p on; all assumptions held at `held` points before it.
unfoldable pub run_points : (defs funs : List Definition) → (sorts numbers : List ℕ) → (assumptions constraints : List Terms) → (n p held left : ℕ) → Run
run_points defs funs sorts numbers assumptions constraints zero p held left = run held (Passed left)
run_points defs funs sorts numbers assumptions constraints (suc n) p held left =
    let here = run_point defs funs (point_at sorts numbers p) assumptions constraints p left in
    let later = run_points defs funs sorts numbers assumptions constraints n (p + 1) (held + here.held) (left_of here.ran) in
    cond (all_passed here.ran) later (run (held + here.held) here.ran)

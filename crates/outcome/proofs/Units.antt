-- The units spent, and the order of the evaluations.
use Rattle.std.specs.Prelude.{Ok}
use Prim.Native.Nat.{ℕ}
use native.Mathlib.Numerals.{add-one}
use native.Mathlib.Omega.{arith}
use mathlib.Core.List.{List}
use mathlib.Core.Path.{◌≡◌, refl, ap}
use lib.ListN.{take}
use Rattle.terms.specs.Labels.{Terms}
use Rattle.evaluation.specs.Points.{points_of}
use Rattle.evaluation.specs.declared.Run.{Run}
use Rattle.names.specs.Scopes.{named_sorts}
use Rattle.script.specs.Script.{Known}
use Rattle.script.specs.Response.{Body}
use Rattle.outcome.specs.Checked.{Checked, Passing, Judgement, evaluated, judged, missized, points_refused, texts_refused, underived}
use Rattle.outcome.specs.Demands.{InOrder, Showing, UnitsStated, cost_on, spent_before}
use Rattle.outcome.specs.Derived.{terms_of}
use Rattle.outcome.specs.Evaluated.{ran_with, run_outcome}
use Rattle.outcome.specs.declared.Outcome.{Outcome}
use Rattle.outcome.proofs.Runs.{PointsFound, all-passed, not_begun, run_found, some_false}
use Rattle.outcome.proofs.Stages.{missized_one, of_passing, refused_number, run_showing}

module _ (k : Known) (ts : List Terms) (points : List ℕ) (n budget : ℕ) (good : points_of (named_sorts k.variables) points ≡ Ok n) where
  -- The units of a run.
  ran_units : {r : Run} → PointsFound k ts points n budget r → UnitsStated k ts points budget (run_outcome budget r)
  ran_units (all-passed {rest = rest} e h before) =
      record {
        accepted = λ z m whole. let same : n ≡ m = cc in let all = ap (spent_before k ts points) same in omega arith;
        constraint_false = λ z. absurd (omega arith);
        budget_ended = λ z. absurd (omega arith);
        within = omega arith;
      }
  ran_units (some_false {c = c} {rest = rest} inside before known hold more e f) =
      let one = ap (λ (x : ℕ). cost_on k ts (take x k.constraints)) (add-one c) in
      record {
        accepted = λ z. absurd (omega arith);
        constraint_false = λ z. omega arith;
        budget_ended = λ z. absurd (omega arith);
        within = omega arith;
      }
  ran_units (not_begun {rest = rest} inside before named more e f) =
      record {
        accepted = λ z. absurd (omega arith);
        constraint_false = λ z. absurd (omega arith);
        budget_ended = λ z. record { named = named; units = omega arith; exceeds = f };
        within = omega arith;
      }

  -- The order of a run.
  ran_order : {r : Run} → PointsFound k ts points n budget r → InOrder k ts points (run_outcome budget r)
  ran_order (all-passed e h before) =
      record {
        accepted = λ z. record { n = n; whole = good; passed = before; counted = h };
        constraint_false = λ z. absurd (omega arith);
        budget_ended = λ z. absurd (omega arith);
      }
  ran_order (some_false inside before known hold more e f) =
      record {
        accepted = λ z. absurd (omega arith);
        constraint_false = λ z. (record { n = n; whole = good; point = inside; constraint = known }, before, hold, more, f);
        budget_ended = λ z. absurd (omega arith);
      }
  ran_order (not_begun inside before named more e f) =
      record {
        accepted = λ z. absurd (omega arith);
        constraint_false = λ z. absurd (omega arith);
        budget_ended = λ z. record { n = n; whole = good; point = inside; passed = before; named = named; true_before = more };
      }

module _ {k : Known} {ts : List Terms} {points : List ℕ} {o : Outcome} (other : (o.number ≡ 0 → ⊥) × (o.number ≡ 14 → ⊥) × (o.number ≡ 15 → ⊥)) where
  -- The units of an answer that no run gives.
  other_units : {budget : ℕ} → o.units ≡ 0 → UnitsStated k ts points budget o
  other_units z =
      record {
        accepted = λ e. absurd (other.0 e);
        constraint_false = λ e. absurd (other.1 e);
        budget_ended = λ e. absurd (other.2 e);
        within = omega arith;
      }

  -- Its order.
  other_order : InOrder k ts points o
  other_order = record { accepted = λ e. absurd (other.0 e); constraint_false = λ e. absurd (other.1 e); budget_ended = λ e. absurd (other.2 e) }

-- The units of a verdict.
verdict_units : {response : List ℕ} {k : Known} {bs : List Body} {points : List ℕ} {budget : ℕ} {o : Outcome} {a w : List ℕ}
    → Judgement response k bs points budget o a w → UnitsStated k (terms_of bs) points budget o
verdict_units (underived u) = other_units (omega arith) refl
verdict_units (points_refused s e) = other_units (omega arith) refl
verdict_units {k = k} {bs} {points} {budget} (evaluated {n = n} s e) =
    ran_units k (terms_of bs) points n budget e (run_found k (terms_of bs) points n budget)

-- The order of a verdict.
verdict_order : {response : List ℕ} {k : Known} {bs : List Body} {points : List ℕ} {budget : ℕ} {o : Outcome} {a w : List ℕ}
    → Judgement response k bs points budget o a w → InOrder k (terms_of bs) points o
verdict_order (underived u) = other_order (omega arith)
verdict_order (points_refused s e) = other_order (omega arith)
verdict_order {k = k} {bs} {points} {budget} (evaluated {n = n} s e) =
    ran_order k (terms_of bs) points n budget e (run_found k (terms_of bs) points n budget)

-- "the units spent equal the stated cost".
pub units : {script response points : List ℕ} {budget : ℕ} {area : List ℕ} {k : Known} {bs : List Body} {o : Outcome} {a w : List ℕ}
    → Passing script response points area k bs → Checked script response points budget area o a w → UnitsStated k (terms_of bs) points budget o
units p c = verdict_units (of_passing p c)

-- The units of a verdict outside 0, 14 and 15.
judged_none : {response : List ℕ} {k : Known} {bs : List Body} {points : List ℕ} {budget : ℕ} {o : Outcome} {a w : List ℕ}
    → Judgement response k bs points budget o a w → (Showing o.number → ⊥) → o.units ≡ 0
judged_none (underived u) h = omega arith
judged_none (points_refused s e) h = omega arith
judged_none {k = k} {bs} {points} {budget} (evaluated {n = n} s e) h =
    absurd (h (run_showing budget (ran_with k (terms_of bs) points n budget)))

-- "0 outside 0, 14 and 15".
pub no_units : {script response points : List ℕ} {budget : ℕ} {area : List ℕ} {o : Outcome} {a w : List ℕ}
    → Checked script response points budget area o a w → (Showing o.number → ⊥) → o.units ≡ 0
no_units {script} {response} {points} {area = area} (missized e) h = (missized_one script response points area e).units
no_units (texts_refused n t) h = (refused_number t).units
no_units (judged p v) h = judged_none v h

-- "Constraints are evaluated at the given points in the stated order"; "At each point the assumptions are evaluated first, in script order, up to the first
-- false one, which skips the point's constraints." (E1)
pub in_order : {script response points : List ℕ} {budget : ℕ} {area : List ℕ} {k : Known} {bs : List Body} {o : Outcome} {a w : List ℕ}
    → Passing script response points area k bs → Checked script response points budget area o a w → InOrder k (terms_of bs) points o
in_order p c = verdict_order (of_passing p c)

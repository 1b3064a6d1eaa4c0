-- The run at a point: its assumptions, and its constraints where all of them are true.
use Prim.Native.Nat.{ℕ, ◌≤◌}
use native.Mathlib.Omega.{arith}
use mathlib.Core.Path.{◌≡◌, sym, ◌∙◌}
use mathlib.Core.Bool.{Bool, true, false, cond, not}
use mathlib.Core.List.{List}
use borrow.Author.Tests.{not-false, not-true}
use lib.ListN.{length}
use Rattle.forest.specs.Limits.{first_assumption}
use Rattle.terms.specs.Labels.{Terms}
use Rattle.terms.specs.Sorts.{Definition}
use Rattle.terms.specs.declared.Value.{Value}
use Rattle.evaluation.specs.Running.{all_passed, left_of, run, run_point, run_terms, skipping}
use Rattle.evaluation.specs.code.Running.{FrontKept, PointRan, PointRunnable, PointStands, Runnable, TermsRan}
use Rattle.evaluation.specs.declared.Ran.{Ran}
use Rattle.evaluation.specs.declared.Run.{Run}
use Rattle.evaluation.specs.declared.Turn.{Turn}
use Rattle.evaluation.specs.declared.Visit.{Visit}
use Rattle.evaluation.proofs.Stack.{below_same}

-- The assumptions held at one point, or at none.
held_one : (defs funs : List Definition) (point : List Value) (assumptions constraints : List Terms) (p left : ℕ)
    → (run_point defs funs point assumptions constraints p left).held ≤ 1
unfolding run_point
held_one defs funs point assumptions constraints p left =
    let assumed = run_terms defs funs point assumptions p first_assumption left in
    by_case (all_passed assumed) (run_terms defs funs point constraints p 0 (left_of assumed)) (skipping assumed)
  where
    by_case : (passed : Bool) (here skipped : Ran) → (cond {A = Run} passed (run 1 here) (run 0 skipped)).held ≤ 1
    by_case true here skipped = omega arith
    by_case false here skipped = omega arith

-- A point stands on a stack whose front is kept.
pub stands_after : {stack after : List ℕ} {width : ℕ} {defs funs : List Definition} {point : List Value} → PointStands stack width defs funs point
    → FrontKept stack after width → PointStands after width defs funs point
stands_after {stack} {after} {width} {point = point} s f =
    record {
      names = below_same (length point) 0 width after stack (omega (arith, s.under)) f.kept ∙ s.names;
      under = s.under;
      room = omega (arith, s.room, f.as_long);
      fits = s.fits;
    }

-- The turn of the assumptions at a visit.
abbrev pub assumptions_turn : Visit → Turn
assumptions_turn v = record { point = v.point; first = first_assumption; count = v.stated.assumptions }

-- The turn of the constraints.
abbrev pub constraints_turn : Visit → Turn
constraints_turn v = record { point = v.point; first = 0; count = v.stated.constraints }

module _ {nodes bodies prices places stack : List ℕ} {width : ℕ} (v : Visit) (e : PointRunnable nodes bodies prices places stack width v.stated) where
  -- The assumptions can be run.
  abbrev pub assumptions_runnable : Runnable nodes bodies prices places stack width first_assumption v.stated.assumptions
  assumptions_runnable =
      record {
        defs = e.defs;
        funs = e.funs;
        holds = e.holds;
        point = e.point;
        stands = e.stands;
        terms = e.assumptions;
        counted = e.assumptions_counted;
        placed = e.assumptions_placed;
        priced = e.assumptions_priced;
        valued = e.assumptions_valued;
        places_long = e.places_long;
        prices_long = e.prices_long;
      }

  module _ {after : List ℕ} (left : ℕ) {assumed : Ran} {passed : Bool}
      (got : TermsRan nodes bodies prices places stack after width (assumptions_turn v) left assumed) (passed_is : passed ≡ all_passed assumed) where
    -- The front of the stack is kept.
    pub assumed_front : FrontKept stack after width
    assumed_front = (got assumptions_runnable).1

    -- What the run at the point finds, by what that of the assumptions found.
    found : cond (all_passed assumed) (run 1 (run_terms e.defs e.funs e.point e.constraints v.point 0 (left_of assumed))) (run 0 (skipping assumed))
        ≡ run_point e.defs e.funs e.point e.assumptions e.constraints v.point left
    unfolding run_point
    found = rw (got assumptions_runnable).0

    -- A false assumption skips the constraints.
    pub point_skipped : {skipped : Ran} → not passed ≡ true → skipped ≡ skipping assumed
        → run 0 skipped ≡ run_point e.defs e.funs e.point e.assumptions e.constraints v.point left
    point_skipped q s = rw s (rw (sym passed_is ∙ not-true passed q) at found)

    -- The constraints can be run.
    abbrev pub constraints_runnable : Runnable nodes bodies prices places after width 0 v.stated.constraints
    constraints_runnable =
        record {
          defs = e.defs;
          funs = e.funs;
          holds = e.holds;
          point = e.point;
          stands = stands_after e.stands assumed_front;
          terms = e.constraints;
          counted = e.constraints_counted;
          placed = e.constraints_placed;
          priced = λ k a l. e.constraints_priced k a (omega arith);
          valued = e.constraints_valued;
          places_long = e.places_long;
          prices_long = e.prices_long;
        }

    module _ (last : List ℕ) {left' : ℕ} {here : Ran} (left_is : left' ≡ left_of assumed)
        (then : TermsRan nodes bodies prices places after last width (constraints_turn v) left' here) where
      -- The stack is as long as before.
      pub point_long : length last ≡ length stack
      point_long = (then constraints_runnable).1.as_long ∙ assumed_front.as_long

      -- Where all assumptions are true the point ends with what the constraints find.
      pub point_tested : not passed ≡ false → run 1 here ≡ run_point e.defs e.funs e.point e.assumptions e.constraints v.point left
      point_tested q = rw ((then constraints_runnable).0, left_is) (rw (sym passed_is ∙ not-false passed q) at found)

-- At a point that is run the assumptions held once or not at all.
pub found_held : {nodes bodies prices places stack : List ℕ} (after : List ℕ) {width : ℕ} (v : Visit) (left : ℕ) {r : Run}
    → PointRunnable nodes bodies prices places stack width v.stated → PointRan nodes bodies prices places stack after width v left r → r.held ≤ 1
found_held after v left e got = rw (got e).0 (held_one _ _ _ _ _ _ _)

-- The loop over the points of a list, at each of which the terms are run.
use Prim.Native.Nat.{ℕ, suc, ◌+◌, ◌-◌, ◌*◌, ◌≤◌, ◌<◌}
use native.Mathlib.Omega.{arith}
use native.Mathlib.Nat.{add-mul, mul-le-mul_right}
use mathlib.Core.Path.{◌≡◌, refl, sym, ap, ◌∙◌}
use mathlib.Core.Bool.{Bool, true, false, cond, not}
use mathlib.Core.List.{List, [], ◌∷◌}
use borrow.Author.Tests.{not-false, not-true}
use lib.ListN.{drop, length, length-drop, take}
use lib.Seq.{length-take-le}
use Rattle.forest.specs.Limits.{first_assumption, most_nodes}
use Rattle.operators.specs.Sorts.{AllFit}
use Rattle.terms.specs.Labels.{Terms}
use Rattle.terms.specs.Values.{numbers_in, sorts_in}
use Rattle.evaluation.specs.code.Evaluator.{Names, Room}
use Rattle.evaluation.specs.code.Costs.{Costing}
use Rattle.evaluation.specs.code.Tables.{CallsKnown, TermStands}
use Rattle.evaluation.specs.Points.{point_at, point_count, values_by}
use Rattle.evaluation.specs.Running.{all_passed, left_of, run, run_points}
use Rattle.evaluation.specs.code.Running.{AllValued, Fronted, Placed, PointRan, PointRunnable, PointStands, PointsRunnable, StatedCosting, StatedPriced}
use Rattle.evaluation.specs.code.Running.{TermsCosting, stack_size}
use Rattle.evaluation.specs.declared.Ran.{Ran}
use Rattle.evaluation.specs.declared.Ran.TheVariants.{Ended, False, Passed}
use Rattle.evaluation.specs.declared.Run.{Run}
use Rattle.evaluation.specs.declared.Stated.{Stated}
use Rattle.evaluation.proofs.TermCosts.{known_at}
use Rattle.evaluation.proofs.Visits.{found_held}

-- The values of variables have their sorts.
pub sorts_by : (sorts numbers : List ℕ) → sorts_in (values_by sorts numbers) ≡ sorts
unfolding values_by
sorts_by [] numbers = refl
sorts_by (s ∷ sorts) numbers = ap (λ (l : List ℕ). s ∷ l) (sorts_by sorts (drop 1 numbers))

-- There is one for each variable.
length_by : (sorts numbers : List ℕ) → length (values_by sorts numbers) ≡ length sorts
unfolding values_by
length_by [] numbers = refl
length_by (s ∷ sorts) numbers = ap suc (length_by sorts (drop 1 numbers))

-- Their numbers are the first of the list.
numbers_by : (sorts numbers : List ℕ) → length sorts ≤ length numbers → numbers_in (values_by sorts numbers) ≡ take (length sorts) numbers
unfolding values_by
numbers_by [] numbers h = refl
numbers_by (s ∷ sorts) [] h = absurd (omega arith)
numbers_by (s ∷ sorts) (x ∷ numbers) h = ap (λ (l : List ℕ). x ∷ l) (numbers_by sorts numbers (omega arith))

-- A run in which all terms were true.
all-passed : (ran : Ran) → all_passed ran ≡ true → ran ≡ Passed (left_of ran)
all-passed (Passed left) h = refl
all-passed (False p k left) h = let z : ◌≡◌ {A = ℕ} 0 1 = cc in absurd (omega arith)
all-passed (Ended p k left) h = let z : ◌≡◌ {A = ℕ} 0 1 = cc in absurd (omega arith)

-- A point ends within the list.
within : (p count n size : ℕ) → p < count → count * n ≡ size → p * n + n ≤ size
within p count n size h e =
    let more : (p + 1) * n ≤ count * n = mul-le-mul_right n (omega arith) in
    let parts : (p + 1) * n ≡ p * n + 1 * n = add-mul p 1 n in
    omega arith

module _ {nodes bodies costs places : List ℕ} {s : Stated} {sorts numbers : List ℕ} (e : PointsRunnable nodes bodies costs places s sorts numbers) where
  -- What running the terms at n points, from point p on, finds.
  abbrev pub runs : (n p held left : ℕ) → Run
  runs n p held left = run_points e.defs e.funs sorts numbers e.assumptions e.constraints n p held left

  -- What is to be run before point p is what was to be run; up to there all terms were true wherever all assumptions held.
  pub record PointsLeft (budget : ℕ) (r : Run) (p : ℕ) : Type 0 where
    pub inside : p ≤ point_count (length sorts) (length numbers)
    pub few : r.held ≤ p
    pub passed : r.ran ≡ Passed (left_of r.ran)
    pub so_far : runs (point_count (length sorts) (length numbers) - p) p r.held (left_of r.ran)
        ≡ runs (point_count (length sorts) (length numbers)) 0 0 budget

  -- Where there are no points all terms were true.
  pub no_points : (budget : ℕ) {count : ℕ} → count ≡ point_count (length sorts) (length numbers) → count ≡ 0
      → run 0 (Passed budget) ≡ runs (point_count (length sorts) (length numbers)) 0 0 budget
  unfolding run_points
  no_points budget q z = rw (← q, z)

  -- The cost of a term that applies only functions that are known can be told.
  abbrev pub costing : {i : ℕ} (t : Terms) → TermStands e.holds.all i t → CallsKnown (length e.defs) (length e.funs) t → Costing nodes bodies costs i
  costing t s c = record { defs = e.defs; funs = e.funs; holds = e.holds; priced = e.priced; t = t; stands = s; calls = c }

  -- Where there is a point the costs of terms that have values there can be told.
  terms_costing : (first n : ℕ) (ts : List Terms) → n ≡ length ts → Placed e.holds.all places first ts
      → AllValued e.defs e.funs (point_at sorts numbers 0) ts → TermsCosting nodes bodies costs places first n
  terms_costing first n ts counted placed valued =
      record {
        within = omega (arith, placed.within);
        long = e.places_long;
        each = λ k a l.
            let known = known_at e.holds.all e.defs e.funs (point_at sorts numbers 0) places first ts placed.at valued k a (omega arith) in
            costing known.t known.stands known.calls;
      }

  -- So it is of the constraints and the assumptions.
  pub stated_costing : {count : ℕ} → count ≡ point_count (length sorts) (length numbers) → (count ≡ 0 → ⊥) → StatedCosting nodes bodies costs places s
  stated_costing q z =
      let there : 0 < point_count (length sorts) (length numbers) = omega arith in
      record {
        constraints = terms_costing 0 s.constraints e.constraints e.constraints_counted e.constraints_placed (e.constraints_valued 0 there);
        assumptions = terms_costing first_assumption s.assumptions e.assumptions e.assumptions_counted e.assumptions_placed
            (e.assumptions_valued 0 there);
        few = e.few_constraints;
      }

  module _ {budget p count : ℕ} {r : Run} (before : PointsLeft budget r p) (count_is : count ≡ point_count (length sorts) (length numbers)) where
    -- Past the last point all terms were true.
    pub points-end : count ≤ p → r ≡ runs (point_count (length sorts) (length numbers)) 0 0 budget
    unfolding run_points
    points-end h =
        let no_more : point_count (length sorts) (length numbers) - p ≡ 0 = omega (arith, before.inside) in
        ap (λ (x : Ran). run r.held x) before.passed ∙ (rw no_more at before.so_far)

    module _ (h : p < count) where
      -- There is the point.
      pub point_there : p < point_count (length sorts) (length numbers)
      point_there = omega arith

      -- It ends within the list.
      pub point_within : p * length sorts + length sorts ≤ length numbers
      point_within = within p (point_count (length sorts) (length numbers)) (length sorts) (length numbers) point_there e.whole

      -- The numbers of the point.
      abbrev pub numbers_here : List ℕ
      numbers_here = take (p * length sorts + length sorts - p * length sorts) (drop (p * length sorts) numbers)

      -- There is one for each variable.
      pub here_counted : length numbers_here ≡ length sorts
      here_counted =
          let from-here = drop (p * length sorts) numbers in
          let n : p * length sorts + length sorts - p * length sorts ≡ length sorts = omega arith in
          ap (λ (m : ℕ). length (take m from-here)) n
          ∙ length-take-le (length sorts) from-here (omega (arith, point_within, length-drop (p * length sorts) numbers))

      -- They are those of its values.
      here_are : numbers_here ≡ numbers_in (point_at sorts numbers p)
      here_are =
          let from-here = drop (p * length sorts) numbers in
          let n : p * length sorts + length sorts - p * length sorts ≡ length sorts = omega arith in
          let room : length sorts ≤ length from-here = omega (arith, point_within, length-drop (p * length sorts) numbers) in
          ap (λ (m : ℕ). take m from-here) n ∙ sym (numbers_by sorts from-here room)

      -- It has as many values.
      pub point_counted : length (point_at sorts numbers p) ≡ length sorts
      point_counted = length_by sorts (drop (p * length sorts) numbers)

      -- The stack has them once they are put there.
      pub point_names : {stack after : List ℕ} → Fronted stack after numbers_here → Names after 0 (point_at sorts numbers p)
      point_names {after = after} put =
          ap (λ (m : ℕ). take m after) (point_counted ∙ sym here_counted) ∙ put.front ∙ here_are

      -- There is room behind them.
      pub run_room : (stack : List ℕ) → length stack ≡ stack_size → Room stack (length sorts) most_nodes e.defs e.funs
      run_room stack long = omega (arith, e.few_variables, e.holds.defined_most, e.holds.functions_most, long)

      -- Its values are of their sorts.
      pub point_fits : AllFit (sorts_in (point_at sorts numbers p)) (numbers_in (point_at sorts numbers p))
      point_fits = rw (sorts_by sorts (drop (p * length sorts) numbers)) (e.fits p point_there)

      -- The point stands on the stack once its numbers are put there.
      pub point_stands : {stack after : List ℕ} → length stack ≡ stack_size → Fronted stack after numbers_here
          → PointStands after (length sorts) e.defs e.funs (point_at sorts numbers p)
      point_stands {after = after} long put =
          record {
            names = point_names put;
            under = omega (arith, point_counted);
            room = run_room after (put.as_long ∙ long);
            fits = point_fits;
          }

      -- The terms can be run at the point.
      abbrev pub point_runnable : {prices stack after : List ℕ} → StatedPriced nodes bodies costs places s prices → length stack ≡ stack_size
          → Fronted stack after numbers_here → PointRunnable nodes bodies prices places after (length sorts) s
      point_runnable told long put =
          record {
            defs = e.defs;
            funs = e.funs;
            holds = e.holds;
            point = point_at sorts numbers p;
            stands = point_stands long put;
            constraints = e.constraints;
            assumptions = e.assumptions;
            constraints_counted = e.constraints_counted;
            assumptions_counted = e.assumptions_counted;
            constraints_placed = e.constraints_placed;
            assumptions_placed = e.assumptions_placed;
            constraints_priced = λ k a l t s c. told.constraints k l (costing t s c);
            assumptions_priced = λ k a l t s c. told.assumptions k a l (costing t s c);
            constraints_valued = e.constraints_valued p point_there;
            assumptions_valued = e.assumptions_valued p point_there;
            places_long = e.places_long;
            prices_long = told.as_long;
          }

      module _ {prices stack after : List ℕ} (last : List ℕ) {left : ℕ} {here : Run} (told : StatedPriced nodes bodies costs places s prices)
          (long : length stack ≡ stack_size) (put : Fronted stack after numbers_here) (left_is : left ≡ left_of r.ran)
          (got : PointRan nodes bodies prices places after last (length sorts) (record { point = p; stated = s }) left here) where
        -- The assumptions held here, or not.
        pub here_held : here.held ≤ 1
        here_held = found_held last (record { point = p; stated = s }) left (point_runnable told long put) got

        -- The stack is as long as before.
        pub last_long : length last ≡ stack_size
        last_long = (got (point_runnable told long put)).1 ∙ put.as_long ∙ long

        -- What running them finds, by what was found at the point.
        found : cond (all_passed here.ran) (runs (point_count (length sorts) (length numbers) - (p + 1)) (p + 1) (r.held + here.held) (left_of here.ran))
            (run (r.held + here.held) here.ran) ≡ runs (point_count (length sorts) (length numbers)) 0 0 budget
        unfolding run_points
        found =
            let one : point_count (length sorts) (length numbers) - p ≡ suc (point_count (length sorts) (length numbers) - (p + 1)) = omega arith in
            rw (one, ← left_is, ← (got (point_runnable told long put)).0) at before.so_far

        module _ {passed : Bool} (passed_is : passed ≡ all_passed here.ran) where
          -- A point at which not all are true ends the work.
          pub point_stopped : not passed ≡ true → run (r.held + here.held) here.ran ≡ runs (point_count (length sorts) (length numbers)) 0 0 budget
          point_stopped q = rw (sym passed_is ∙ not-true passed q) at found

          -- Past any other the points behind it are run.
          pub point_passed : not passed ≡ false → PointsLeft budget (run (r.held + here.held) here.ran) (p + 1)
          point_passed q =
              let all_true = sym passed_is ∙ not-false passed q in
              record {
                inside = omega arith;
                few = omega (arith, before.few, here_held);
                passed = all-passed here.ran all_true;
                so_far = rw all_true at found;
              }

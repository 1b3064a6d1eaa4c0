-- The constraints and the assumptions of a script and a response that pass can be run over a list that is points.
use Prim.Native.Nat.{ℕ, ◌+◌, ◌*◌, ◌≤◌, ◌<◌}
use native.Mathlib.Omega.{arith}
use mathlib.Core.Path.{◌≡◌, ap, ◌∙◌}
use mathlib.Core.List.{List, [], ◌∷◌}
use lib.ListN.{drop, get_or, length, length-drop, length-map}
use lib.Seq.{get_or-drop, get_or-take, length-take-le}
use Rattle.forest.specs.Limits.{first_assumption, most_variables}
use Rattle.operators.specs.Sorts.{AllFit}
use Rattle.terms.specs.Labels.{Terms}
use Rattle.terms.specs.Sorts.{Definition}
use Rattle.terms.specs.code.Sorted.{AllSorted, FunctionsSorted}
use Rattle.terms.specs.Values.{numbers_in}
use Rattle.terms.specs.declared.Value.{Value}
use Rattle.terms.proofs.Sound.{Fits, one_value, point_scope}
use Rattle.evaluation.specs.code.Budget.{Priced}
use Rattle.evaluation.specs.code.Costs.{Pricing}
use Rattle.evaluation.specs.Points.{point_at, point_count}
use Rattle.evaluation.specs.code.Running.{AllValued, Placed, PointsRan, PointsRunnable, SmallTerms, TermsFrom}
use Rattle.evaluation.specs.declared.Run.{Run}
use Rattle.evaluation.specs.declared.Stated.{Stated as Counts}
use Rattle.names.specs.Scopes.{Named}
use Rattle.script.specs.code.Tables.{StatedAt}
use Rattle.script.specs.code.Places.{bodies_place, constraints_place, stated_count, stated_of}
use Rattle.term_faults.specs.Faults.{scope_of}
use Rattle.script.specs.Script.{constraint_view, definitions_of}
use Rattle.script.specs.declared.Progress.{Progress}
use Rattle.outcome.specs.code.Sorted.{AllBool}
use Rattle.script.specs.Response.{in_script_order}
use Rattle.outcome.specs.Derived.{terms_of}
use Rattle.outcome.specs.Evaluated.{functions_with, ran_with}
use Rattle.outcome.proofs.BodiesAssured.{bodies_sorted, functions_sorted}
use Rattle.outcome.proofs.Sorts.{terms_point_scope}
use Rattle.verdicts.specs.code.Evaluate.{Constrained}
use Rattle.evaluation.proofs.GoodPoints.{GoodList, good_list, point_fits, whole}
use Rattle.evaluation.proofs.PointRuns.{sorts_by}
use Rattle.verdicts.proofs.FunctionsHeld.{defined_are, functions_are, tables_hold}

-- Constraints and assumptions, from number m on, stand at the nodes that the part of the table for them has.
stated_there : (all : Terms) (places : List ℕ) (m : ℕ) (ts : List Terms) → m + length ts ≤ stated_count → StatedAt all places m ts
    → TermsFrom all (stated_of places) m ts
unfolding StatedAt TermsFrom
stated_there all places m [] few at = tt
stated_there all places m (t ∷ more) few at =
    let there : get_or (stated_of places) m 0 ≡ get_or places (constraints_place + m) 0 =
    get_or-take stated_count (drop constraints_place places) m 0 (omega arith) ∙ get_or-drop constraints_place places m 0 in
    (rw there at.0, stated_there all places (m + 1) more (omega arith) at.1)

-- Terms that are Bool have a value each, a Bool, where bodies and the values of the point are of their sorts.
all_valued : (defs funs : List Definition) → AllSorted defs → FunctionsSorted defs funs → (point : List Value) → Fits point
    → (ts : List Terms) → AllBool (point_scope defs funs point) ts → AllValued defs funs point ts
unfolding AllBool AllValued
all_valued defs funs d f point fit [] all = tt
all_valued defs funs d f point fit (t ∷ more) all =
    let one = one_value defs funs d f point fit t all.0 in
    (record { v = one.v; is = one.is; truth = one.sort }, all_valued defs funs d f point fit more all.1)

module _ {places nodes : List ℕ} {p : Progress} {sorts points : List ℕ} (q : Constrained places nodes p sorts points) where
  -- What the tests of the points have found.
  list_good : GoodList sorts points q.count
  list_good = good_list sorts points q.good

  -- The values at each point are of their sorts.
  pub values_fit : (n : ℕ) → n < point_count (length sorts) (length points) → AllFit sorts (numbers_in (point_at sorts points n))
  values_fit n h = point_fits list_good (rw q.sorts_are q.tables.held.script.small) n h

  -- The list is whole points.
  pub list_whole : point_count (length sorts) (length points) * length sorts ≡ length points
  list_whole = whole list_good

  -- Terms that are Bool, where the script's names are seen, have values at each point.
  pub stated_valued : (ts : List Terms) → AllBool (scope_of (constraint_view q.tables.known)).terms ts → (n : ℕ)
      → n < point_count (length sorts) (length points)
      → AllValued (definitions_of q.tables.known.defined) (functions_with q.tables.known (terms_of q.tables.bodies)) (point_at sorts points n) ts
  stated_valued ts bool n h =
      let k = q.tables.known in
      let held = q.tables.held in
      let bs = q.tables.bodies in
      let point = point_at sorts points n in
      let by = sorts_by sorts (drop (n * length sorts) points) in
      let scope = terms_point_scope k (bodies_sorted k.defined (in_script_order k.functions) bs held.response) point (by ∙ q.sorts_are) in
      all_valued (definitions_of k.defined) (functions_with k (terms_of bs)) held.script.sorted.bodies (functions_sorted k bs held.response) point
      (rw by (values_fit n h)) ts (rw scope bool)

  -- There are not too many variables.
  pub variables_few : length sorts ≤ most_variables
  variables_few =
      let counted = q.tables.held.counted in
      omega (arith, ap length q.sorts_are, length-map q.tables.known.variables (λ (v : Named). v.sort), counted.variables_are, counted.few_variables)

  module _ {bodies : List ℕ} (bodies-are : bodies ≡ drop bodies_place places) where
    -- The costs of the bodies can be told.
    abbrev pub pricing : Pricing nodes bodies p.defined p.functions
    pricing =
        record {
          defs = definitions_of q.tables.known.defined;
          funs = functions_with q.tables.known (terms_of q.tables.bodies);
          holds = tables_hold q.tables.held bodies-are;
          defined_are = defined_are q.tables.held;
          functions_are = functions_are q.tables.held;
        }

    module _ {terms costs : List ℕ} (terms-are : terms ≡ stated_of places)
        (priced : Priced costs (definitions_of q.tables.known.defined) (functions_with q.tables.known (terms_of q.tables.bodies))) where
      -- Constraints or assumptions stand at their nodes.
      pub stated_placed : (m : ℕ) (ts : List Terms) → m + length ts ≤ stated_count → StatedAt q.tables.held.bodies_held.places_hold.all places m ts → SmallTerms ts
          → Placed q.tables.held.bodies_held.places_hold.all terms m ts
      stated_placed m ts few at small =
          record { at = rw terms-are (stated_there q.tables.held.bodies_held.places_hold.all places m ts few at); small = small; within = few }

      pub terms_long : length terms ≡ stated_count
      terms_long =
          ap length terms-are
          ∙ length-take-le stated_count (drop constraints_place places)
          (omega (arith, q.tables.held.bodies_held.places_hold.long, length-drop constraints_place places))

      -- How many there are of each.
      abbrev pub counts : Counts
      counts = record { constraints = p.constraints; assumptions = p.assumptions }

      -- They can be run at every point.
      abbrev pub runnable : PointsRunnable nodes bodies costs terms counts sorts points
      runnable =
          let k = q.tables.known in
          let placed = q.tables.held.bodies_held.places_hold in
          let counted = q.tables.held.counted in
          let script = q.tables.held.script in
          record {
            defs = definitions_of k.defined;
            funs = functions_with k (terms_of q.tables.bodies);
            holds = tables_hold q.tables.held bodies-are;
            priced = priced;
            few_variables = variables_few;
            constraints = k.constraints;
            assumptions = k.assumptions;
            constraints_counted = counted.constraints_are;
            assumptions_counted = counted.assumptions_are;
            constraints_placed = stated_placed 0 k.constraints (omega (arith, counted.constraints_are, counted.few_constraints)) placed.constraints_at
                script.few.constraints;
            assumptions_placed = stated_placed first_assumption k.assumptions (omega (arith, counted.assumptions_are, counted.few_assumptions))
                placed.assumptions_at script.few.assumptions;
            few_constraints = omega (arith, counted.few_constraints);
            places_long = terms_long;
            whole = list_whole;
            fits = values_fit;
            constraints_valued = stated_valued k.constraints script.sorted.constraints;
            assumptions_valued = stated_valued k.assumptions script.sorted.assumptions;
          }

      -- Their run is that of the script.
      pub stated_ran : (budget : ℕ) {r : Run} → PointsRan nodes bodies costs terms counts sorts points budget r
          → r ≡ ran_with q.tables.known (terms_of q.tables.bodies) points q.count budget
      stated_ran budget ran = rw (list_good.counted, ← q.sorts_are) (ran runnable)

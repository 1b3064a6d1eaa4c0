-- The case meets what the functions of `evaluation` ask.
use Prim.Native.Nat.{ℕ, zero, suc, ◌≤◌, ◌<◌}
use native.Mathlib.Omega.{arith}
use mathlib.Core.Path.{◌≡◌, refl, sym, ap, subst, ◌∙◌}
use mathlib.Core.List.{List, [], ◌∷◌, append-nil}
use mathlib.Core.Option.{some}
use lib.Dec.{lit<, lit≤}
use lib.ListN.{length, length-replicate, replicate, set, take}
use Rattle.forest.specs.Forest.{join}
use Rattle.forest.specs.code.Cursors.{from, size}
use Rattle.operators.specs.Operators.{operator_at, operator_sort, operator_value, operators}
use Rattle.operators.specs.Sorts.{AllFit, sort_by}
use Rattle.operators.specs.Sorts.AllFit.{no_more, also}
use Rattle.operators.specs.Values.{chained}
use Rattle.terms.specs.Costs.{cost_of, costs, defined_cost, function_cost}
use Rattle.terms.specs.code.Nodes.{AllPlain, node_table}
use Rattle.terms.specs.Sorts.{same_sorts}
use Rattle.terms.specs.Values.{called, defined_value, function_value, label_value, numbers_in, operator_gives, result_of, value, value_over, values_at, values_in}
use Rattle.terms.specs.Values.{with_value}
use Rattle.evaluation.specs.code.Budget.{Priced, held}
use Rattle.evaluation.specs.code.Evaluator.{Evaluable, Room}
use Rattle.evaluation.specs.code.Costs.{Costing, Pricing}
use Rattle.evaluation.specs.code.Tables.{BodiesAt, CallsDefined, CallsEarlier, CallsKnown, BodiesHold, SmallBodies, TermStands}
use Rattle.forest.specs.Limits.{first_assumption, most_defined}
use Rattle.test_values.specs.Case.{all, assumed, constraints, d0, defs, f0, funs, numbers, places, room, shifted, small, sorts}
use Rattle.evaluation.specs.Points.{point_at, values_by}
use Rattle.evaluation.specs.Running.{is_true_value, run, run_point, run_points, run_terms}
use Rattle.evaluation.specs.declared.Ran.TheVariants.{Ended, False, Passed}
use Rattle.evaluation.specs.code.Running.{AllValued, Placed, PointsRunnable, SmallTerms, TermsFrom}

-- The labels are told by their numbers.
pub all_plain : AllPlain all
unfolding AllPlain
all_plain = (
  lit< tt,
  (tt, tt, (tt, tt, tt)),
  (
    tt,
    (tt, (tt, tt, tt), tt),
    (
      lit< tt,
      (tt, (tt, tt, tt), (lit< tt, (tt, tt, (tt, tt, tt)), tt)),
      (lit< tt, (tt, (tt, tt, tt), (tt, tt, tt)), tt),
    ),
  ),
)

-- The body of d0 is the first term.
d0_stands : TermStands all 0 d0.body
unfolding from
d0_stands = record { label = _; operands = _; rest = _; at = refl; is = refl }

-- The body of f0 is the second.
f0_stands : TermStands all 3 f0.body
unfolding from join
f0_stands = record { label = _; operands = _; rest = _; at = refl; is = refl }

-- The first constraint is the third.
pub shifted_stands : TermStands all 6 shifted
unfolding from join
shifted_stands = record { label = _; operands = _; rest = _; at = refl; is = refl }

-- The second constraint is the last.
small_stands : TermStands all 12 small
unfolding from join
small_stands = record { label = _; operands = _; rest = _; at = refl; is = refl }

-- The node of the body of d0 is in the list of bodies.
pub d0_at : {bodies : List ℕ} → bodies ≡ set (replicate 40 0) 32 3 → BodiesAt all bodies 0 defs
unfolding BodiesAt
d0_at e = rw e (d0_stands, tt)

-- So is that of f0, behind the places for `define-fun`s.
pub f0_at : {bodies : List ℕ} → bodies ≡ set (replicate 40 0) 32 3 → BodiesAt all bodies most_defined funs
unfolding BodiesAt
f0_at e = rw e (f0_stands, tt)

-- The body of d0 is small.
pub small_defs : SmallBodies defs
unfolding SmallBodies size
small_defs = (lit≤ tt, tt)

-- So is that of f0.
pub small_funs : SmallBodies funs
unfolding SmallBodies size
small_funs = (lit≤ tt, tt)

-- So are the constraints.
small_constraints : SmallTerms constraints
unfolding SmallTerms size
small_constraints = (lit≤ tt, (lit≤ tt, tt))

-- So is the assumption.
small_assumed : (n : ℕ) → n ≤ 1 → SmallTerms (assumed n)
unfolding SmallTerms size
small_assumed zero h = tt
small_assumed (suc zero) h = (lit≤ tt, tt)
small_assumed (suc (suc n)) h = absurd (omega arith)

-- There are as many assumptions.
pub assumed_counted : (n : ℕ) → n ≤ 1 → n ≡ length (assumed n)
assumed_counted zero h = refl
assumed_counted (suc zero) h = refl
assumed_counted (suc (suc n)) h = absurd (omega arith)

-- There is room for the first constraint.
pub shifted_room : {stack : List ℕ} → stack ≡ replicate room 33 → Room stack 1 (size shifted) defs funs
unfolding size
shifted_room e = omega (arith, ap length e ∙ length-replicate {A = ℕ} room 33)

-- The body of d0 applies no function.
pub d0_calls : CallsEarlier defs
unfolding CallsEarlier CallsKnown
d0_calls = ((tt, (tt, tt, (tt, tt, tt)), tt), tt)

-- The body of f0 applies d0.
pub f0_calls : CallsDefined (length defs) funs
unfolding CallsDefined CallsKnown
f0_calls = ((lit< tt, (lit< tt, (tt, tt, tt), tt), tt), tt)

-- The first constraint applies f0.
pub shifted_calls : CallsKnown (length defs) (length funs) shifted
unfolding CallsKnown
shifted_calls = (tt, (lit< tt, (tt, tt, tt), (tt, (tt, tt, (tt, tt, tt)), tt)), tt)

-- The constraints stand at their places.
constraints_at : TermsFrom all places 0 constraints
unfolding TermsFrom
constraints_at = (shifted_stands, (small_stands, tt))

-- So does the assumption.
assumed-at : (n : ℕ) → n ≤ 1 → TermsFrom all places first_assumption (assumed n)
unfolding TermsFrom
assumed-at zero h = tt
assumed-at (suc zero) h = (small_stands, tt)
assumed-at (suc (suc n)) h = absurd (omega arith)

-- The constraints have room in the table.
pub constraints_placed : Placed all places 0 constraints
constraints_placed = record { at = constraints_at; small = small_constraints; within = lit≤ tt }

-- So has the assumption.
pub assumed_placed : (n : ℕ) → n ≤ 1 → Placed all places first_assumption (assumed n)
assumed_placed n h = record { at = assumed-at n h; small = small_assumed n h; within = omega (arith, assumed_counted n h) }

-- The first constraint is true where x is 33.
pub shifted_true : values_at defs funs (value 8 33 ∷ []) shifted ≡ some (value 0 1 ∷ [])
unfolding called chained defined_value function_value label_value operator_at operator_gives operator_sort operator_value operators result_of same_sorts
    sort_by value_over values_in with_value
shifted_true = refl

-- It costs 15.
pub shifted_cost : cost_of defs funs shifted ≤ 15
unfolding costs defined_cost function_cost
shifted_cost = lit≤ tt

-- Both points are values of their sorts.
pub points_fit : (p : ℕ) → p < 2 → AllFit sorts (numbers_in (point_at sorts numbers p))
unfolding values_by
points_fit zero h = also (record { sort = lit≤ tt; value = lit< tt }) no_more
points_fit (suc zero) h = also (record { sort = lit≤ tt; value = lit< tt }) no_more
points_fit (suc (suc p)) h = absurd (omega arith)

-- Both constraints have a value at them.
pub points_valued : (p : ℕ) → p < 2 → AllValued defs funs (point_at sorts numbers p) constraints
unfolding AllValued called chained defined_value function_value label_value operator_at operator_gives operator_sort operator_value operators result_of
    same_sorts sort_by value_over values_by values_in with_value
points_valued zero h = (record { v = value 0 1; is = refl; truth = refl }, (record { v = value 0 1; is = refl; truth = refl }, tt))
points_valued (suc zero) h = (record { v = value 0 1; is = refl; truth = refl }, (record { v = value 0 0; is = refl; truth = refl }, tt))
points_valued (suc (suc p)) h = absurd (omega arith)

-- So has the assumption.
pub points_assumed : (n : ℕ) → n ≤ 1 → (p : ℕ) → p < 2 → AllValued defs funs (point_at sorts numbers p) (assumed n)
unfolding AllValued called chained defined_value function_value label_value operator_at operator_gives operator_sort operator_value operators result_of
    same_sorts sort_by value_over values_by values_in with_value
points_assumed zero l p h = tt
points_assumed (suc zero) l zero h = (record { v = value 0 1; is = refl; truth = refl }, tt)
points_assumed (suc zero) l (suc zero) h = (record { v = value 0 0; is = refl; truth = refl }, tt)
points_assumed (suc zero) l (suc (suc p)) h = absurd (omega arith)
points_assumed (suc (suc n)) l p h = absurd (omega arith)

-- With 100 of the budget the second constraint is found false at the second point, and 44 are left.
pub run_false : run_points defs funs sorts numbers (assumed 0) constraints 2 0 0 100 ≡ run 2 (False 1 1 44)
unfolding called chained costs defined_cost defined_value function_cost function_value is_true_value label_value operator_at operator_gives operator_sort operator_value
    operators result_of run_point run_points run_terms same_sorts sort_by value_over values_by values_in with_value
run_false = refl

-- With 55 its evaluation isn't begun, and 12 are left.
pub run_ended : run_points defs funs sorts numbers (assumed 0) constraints 2 0 0 55 ≡ run 2 (Ended 1 1 12)
unfolding called chained costs defined_cost defined_value function_cost function_value is_true_value label_value operator_at operator_gives operator_sort operator_value
    operators result_of run_point run_points run_terms same_sorts sort_by value_over values_by values_in with_value
run_ended = refl

-- Where it is assumed too the second point is skipped, and 46 of 100 are left.
pub run_assumed : run_points defs funs sorts numbers (assumed 1) constraints 2 0 0 100 ≡ run 1 (Passed 46)
unfolding called chained costs defined_cost defined_value function_cost function_value is_true_value label_value operator_at operator_gives operator_sort operator_value
    operators result_of run_point run_points run_terms same_sorts sort_by value_over values_by values_in with_value
run_assumed = refl

-- With 53 the evaluation of the assumption isn't begun there, and 12 are left.
pub assumption_ended : run_points defs funs sorts numbers (assumed 1) constraints 2 0 0 53 ≡ run 1 (Ended 1 64 12)
unfolding called chained costs defined_cost defined_value function_cost function_value is_true_value label_value operator_at operator_gives operator_sort operator_value
    operators result_of run_point run_points run_terms same_sorts sort_by value_over values_by values_in with_value
assumption_ended = refl

-- What is held of the first constraint's cost, which is 15.
pub shifted_held : held (cost_of defs funs shifted) ≡ 14
unfolding costs defined_cost function_cost
shifted_held = refl

module _ {nodes bodies : List ℕ} (nodes_are : nodes ≡ node_table all) (bodies-are : bodies ≡ set (replicate 40 0) 32 3) where
  -- The tables hold the functions.
  abbrev pub holds : BodiesHold nodes bodies defs funs
  holds =
      record {
        all = all;
        rest = [];
        nodes_are = nodes_are ∙ sym (append-nil (node_table all));
        plain = all_plain;
        defined_at = d0_at bodies-are;
        functions_at = f0_at bodies-are;
        small_defined = small_defs;
        small_functions = small_funs;
        defined_calls = d0_calls;
        function_calls = f0_calls;
        defined_most = lit≤ tt;
        functions_most = lit≤ tt;
      }

  -- The costs of the bodies can be filled in.
  abbrev pub pricing : Pricing nodes bodies 1 1
  pricing = record { defs = defs; funs = funs; holds = holds; defined_are = refl; functions_are = refl }

  -- The cost of the first constraint can be told.
  abbrev pub costing : {prices : List ℕ} → Priced prices defs funs → Costing nodes bodies prices 6
  costing p = record { defs = defs; funs = funs; holds = holds; priced = p; t = shifted; stands = shifted_stands; calls = shifted_calls }

  -- It can be evaluated at x = 33.
  abbrev pub evaluable : {stack : List ℕ} → stack ≡ replicate room 33 → Evaluable nodes bodies stack 0 1 6 15
  evaluable e =
      record {
        defs = defs;
        funs = funs;
        holds = holds;
        point = value 8 33 ∷ [];
        names = ap (take 1) e;
        under = lit≤ tt;
        fits = also (record { sort = lit≤ tt; value = lit< tt }) no_more;
        t = shifted;
        stands = shifted_stands;
        v = value 0 1;
        has = shifted_true;
        cost = shifted_cost;
        room = shifted_room e;
      }

  -- The constraints and the assumption can be run at both points.
  abbrev pub runnable : (n : ℕ) → n ≤ 1 → {prices begin : List ℕ} → Priced prices defs funs → begin ≡ places
      → PointsRunnable nodes bodies prices begin (record { constraints = 2; assumptions = n }) sorts numbers
  runnable n h {begin = begin} p at =
      record {
        defs = defs;
        funs = funs;
        holds = holds;
        priced = p;
        few_variables = lit≤ tt;
        constraints = constraints;
        assumptions = assumed n;
        constraints_counted = refl;
        assumptions_counted = assumed_counted n h;
        constraints_placed = subst (λ (l : List ℕ). Placed all l 0 constraints) (sym at) constraints_placed;
        assumptions_placed = subst (λ (l : List ℕ). Placed all l first_assumption (assumed n)) (sym at) (assumed_placed n h);
        few_constraints = lit≤ tt;
        places_long = ap length at;
        whole = refl;
        fits = points_fit;
        constraints_valued = points_valued;
        assumptions_valued = points_assumed n h;
      }

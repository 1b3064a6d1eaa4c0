-- Demand 3: what a script that passes ensures of all terms that its grammars derive, and so of the answer.
use Rattle.std.specs.Prelude.{Ok}
use Prim.Native.Nat.{ℕ, zero, suc, ◌+◌, ◌*◌, ◌≤◌, ◌<◌}
use native.Mathlib.Numerals.{add-one}
use native.Mathlib.Omega.{arith}
use mathlib.Core.Bool.{true, false}
use mathlib.Core.List.{List, [], ◌∷◌, ◌++◌, Memᴰ}
use mathlib.Core.Option.{Option, none as nothing, some}
use mathlib.Core.Path.{◌≡◌, refl, ap, ap₂, subst, sym}
use borrow.Author.Tests.{eqb-true}
use lib.Dec.{eqb}
use lib.ListN.{drop, get_or, length, take}
use Rattle.forest.proofs.Bools.{and_left, and_right, apart}
use Rattle.forest.specs.Forest.{none}
use Rattle.operators.specs.Sorts.{bool}
use Rattle.terms.specs.Labels.{Terms}
use Rattle.terms.specs.Sorts.{Definition, Scope, sorts_of as termSorts}
use Rattle.terms.specs.Values.{value, values_at}
use Rattle.terms.specs.declared.Value.{Value}
use Rattle.terms.proofs.Sound.{one_value}
use Rattle.derivation.specs.Answer.{start}
use Rattle.derivation.specs.Derivation.{Derives}
use Rattle.evaluation.specs.Points.{point_at, points_of}
use Rattle.evaluation.specs.Running.{is_true_value}
use Rattle.evaluation.specs.declared.Run.{Run}
use Rattle.names.specs.Scopes.{Defined, Function, named_sorts}
use Rattle.term_faults.specs.Faults.{scope_of}
use Rattle.script.specs.Script.{Known, constraint_view, definitions_of}
use Rattle.outcome.specs.Sorted.{grammar_scope}
use Rattle.outcome.specs.code.Sorted.{AllBool, AllRulesSorted}
use Rattle.outcome.proofs.Sorted.{derived_sorted, rules_derive}
use Rattle.script.specs.Response.{Body, in_script_order}
use Rattle.script.specs.Outcome.{said, script_outcome}
use Rattle.outcome.proofs.Promised.{script_sorted}
use Rattle.outcome.specs.Checked.{Checked, Judgement, Passing, evaluated, points_refused, underived}
use Rattle.outcome.specs.Demands.{Affords, Decided, OneTruth, RightSorts, Showing, TermNamed, TrueBefore, Truthful, accepted, all_true, assumption_named}
use Rattle.outcome.specs.Demands.{budget_ended, constraint_false, constraint_named, cost_on, cost_with, is_false, is_true, named_false, point_of, showing}
use Rattle.outcome.specs.Demands.{values_on}
use Rattle.outcome.specs.Derived.{Derived, terms_of}
use Rattle.outcome.specs.Derived.Derived.{also, no_more}
use Rattle.outcome.specs.Evaluated.{functions_with, run_outcome}
use Rattle.outcome.specs.Units.{point_cost, summed}
use Rattle.outcome.specs.declared.Outcome.{Outcome}
use Rattle.outcome.proofs.Assumed.{cost_all, cost_least}
use Rattle.outcome.proofs.Exact.{split, verdict_derived, verdict_showing}
use Rattle.evaluation.proofs.GoodPoints.{good_list, point_fits}
use Rattle.evaluation.proofs.PointRuns.{sorts_by}
use Rattle.outcome.proofs.Runs.{PointsFound, all-passed, not_begun, run_found, some_false}
use Rattle.outcome.proofs.Sorts.{TermsSorted, also_sorted, none_sorted, terms_functions_sorted, terms_point_scope}
use Rattle.outcome.proofs.Stages.{of_passing}
use Rattle.outcome.proofs.Sums.{sum_most, sum-next}
use Rattle.outcome.proofs.Units.{in_order}
use Rattle.outcome.proofs.Variables.{variables_small}

-- "Take any script that the reader passes. Every term that a function's grammar derives from its first non-terminal has that function's sort, though no sort
-- check was run on the term."
pub sorted : (script : List ℕ) {k : Known} {f : Function} {T : Terms} {ds : List ℕ} → script_outcome script ≡ said k → Memᴰ f k.functions
    → Derives f.grammar start T ds → termSorts (grammar_scope k.defined f).terms T ≡ some (f.result ∷ [])
sorted script e member d = derived_sorted (script_sorted script e) member d

-- Functions one after the other whose rules have their sorts.
rules_append : (defs : List Defined) (fs gs : List Function) → AllRulesSorted defs fs → AllRulesSorted defs gs → AllRulesSorted defs (fs ++ gs)
unfolding AllRulesSorted
rules_append defs [] gs a b = b
rules_append defs (f ∷ fs) gs a b = (a.0, rules_append defs fs gs a.1 b)

-- The same in script order.
rules_in_order : (defs : List Defined) (fs : List Function) → AllRulesSorted defs fs → AllRulesSorted defs (in_script_order fs)
unfolding AllRulesSorted in_script_order
rules_in_order defs [] a = a
rules_in_order defs (f ∷ earlier) a = rules_append defs (in_script_order earlier) (f ∷ []) (rules_in_order defs earlier a.1) (a.0, tt)

-- Terms that the functions' grammars derive have the functions' sorts.
derived_terms : {defs : List Defined} {fs : List Function} {ts : List Terms} → AllRulesSorted defs fs → Derived fs ts → TermsSorted defs fs ts
unfolding AllRulesSorted
derived_terms a no_more = none_sorted
derived_terms a (also d more) = also_sorted (rules_derive a.0 d) (derived_terms a.1 more)

-- Terms one after the other that are Bool.
bool_append : (scope : Scope) (ts us : List Terms) → AllBool scope ts → AllBool scope us → AllBool scope (ts ++ us)
unfolding AllBool
bool_append scope [] us a b = b
bool_append scope (t ∷ ts) us a b = (a.0, bool_append scope ts us a.1 b)

-- Each of them is Bool.
of_stated : (scope : Scope) (ts : List Terms) {t : Terms} → AllBool scope ts → Memᴰ t ts → termSorts scope t ≡ some (0 ∷ [])
unfolding AllBool
of_stated scope [] all m = elim m [ ]
of_stated scope (u ∷ others) all (Memᴰ.head e) = subst (λ (x : Terms). termSorts scope x ≡ some (0 ∷ [])) (sym e) all.0
of_stated scope (u ∷ others) all (Memᴰ.tail m) = of_stated scope others all.1 m

-- One value that is a Bool is one truth value.
one_truth : {m : Option (List Value)} (v : Value) → m ≡ some (v ∷ []) → v.sort ≡ 0 → v.number < 2 → OneTruth m
one_truth {m} v is sort below = subst OneTruth (sym is) (go v.sort v.number sort below)
  where
    go : (s n : ℕ) → s ≡ 0 → n < 2 → OneTruth (some (value s n ∷ []))
    go zero zero e h = is_false
    go zero (suc zero) e h = is_true
    go zero (suc (suc n)) e h = absurd (omega arith)
    go (suc s) n e h = absurd (omega arith)

-- "With such terms in place of all the functions, every assumption and constraint has one truth value at every point of the right sorts." (demand 3 with E1)
pub valued : (script : List ℕ) {k : Known} {ts : List Terms} {point : List Value} {t : Terms} → script_outcome script ≡ said k
    → Derived (in_script_order k.functions) ts → RightSorts k point → Memᴰ t (k.assumptions ++ k.constraints)
    → OneTruth (values_at (definitions_of k.defined) (functions_with k ts) point t)
valued script {k} {ts} {point} {t} e derived right member =
    let s = script_sorted script e in
    let terms = derived_terms (rules_in_order k.defined k.functions s.functions) derived in
    let scope = (scope_of (constraint_view k)).terms in
    let all = bool_append scope k.assumptions k.constraints s.assumptions s.constraints in
    let is_bool = of_stated scope (k.assumptions ++ k.constraints) all member in
    let one = one_value (definitions_of k.defined) (functions_with k ts) s.bodies (terms_functions_sorted k terms) point right.values t {s = bool}
    (rw (terms_point_scope k terms point right.sorts) is_bool) in
    one_truth one.v one.is one.sort one.fit.value

-- A constraint, by its number, behind the assumptions.
member_behind : (us ts : List Terms) (c : ℕ) → c < length ts → Memᴰ (get_or ts c none) (us ++ ts)
member_behind (u ∷ us) ts c h = Memᴰ.tail (member_behind us ts c h)
member_behind [] [] c h = absurd (omega arith)
member_behind [] (t ∷ ts) zero h = Memᴰ.head refl
member_behind [] (t ∷ ts) (suc c) h = Memᴰ.tail (member_behind [] ts c (omega arith))

-- The points of a list that passes have the right sorts.
points_right : (script : List ℕ) {k : Known} → script_outcome script ≡ said k → (points : List ℕ) {n : ℕ}
    → points_of (named_sorts k.variables) points ≡ Ok n → (p : ℕ) → p < n → RightSorts k (point_at (named_sorts k.variables) points p)
points_right script {k} e points good p h =
    let sorts = named_sorts k.variables in
    let list = good_list sorts points good in
    let by = sorts_by sorts (drop (p * length sorts) points) in
    record { sorts = by; values = rw by (point_fits list (variables_small script e) p (omega (arith, list.counted))) }

-- What is true is the one value true.
true_value : (m : Option (List Value)) → is_true_value m ≡ true → m ≡ some (value bool 1 ∷ [])
unfolding is_true_value
true_value nothing h = apart h
true_value (some []) h = apart h
true_value (some (v ∷ [])) h =
    let is_bool = eqb-true v.sort bool (and_left (eqb v.sort bool) (eqb v.number 1) h) in
    let is_one = eqb-true v.number 1 (and_right (eqb v.sort bool) (eqb v.number 1) h) in
    ap₂ (λ (s n : ℕ). some (value s n ∷ [])) is_bool is_one
true_value (some (v ∷ u ∷ more)) h = apart h

-- Of one truth value, what is not true is the one value false.
false_value : {m : Option (List Value)} → OneTruth m → is_true_value m ≡ false → m ≡ some (value bool 0 ∷ [])
unfolding is_true_value
false_value is_false h = refl
false_value is_true h = apart (sym h)

-- The first terms cost no more than all.
front_most : (defs funs : List Definition) (ts : List Terms) (c : ℕ) → summed defs funs (take c ts) ≤ summed defs funs ts
unfolding summed
front_most defs funs ts zero = omega arith
front_most defs funs [] (suc c) = omega arith
front_most defs funs (t ∷ ts) (suc c) = omega (arith, front_most defs funs ts c)

-- A term that is evaluated next at a point costs, with those before it, no more than the point.
within_point : (k : Known) (ts : List Terms) (points : List ℕ) (p : ℕ) {number : ℕ} (named : TermNamed k number) → TrueBefore k ts points p named
    → cost_with k ts named ≤ point_cost (definitions_of k.defined) (functions_with k ts) (point_of k points p) k.assumptions k.constraints
within_point k ts points p (constraint_named {c} h) before =
    let defs = definitions_of k.defined in
    let funs = functions_with k ts in
    let hold = before.0 in
    rw hold (omega (arith, cost_all defs funs (point_of k points p) k.assumptions hold, front_most defs funs k.constraints (c + 1)))
within_point k ts points p (assumption_named {a} h) before =
    let one = ap (λ (x : ℕ). cost_on k ts (take x k.assumptions)) (add-one a) in
    omega (arith, cost_least (definitions_of k.defined) (functions_with k ts) (point_of k points p) k.assumptions a before)

-- A budget that is enough for all evaluations does not end in a run.
never_ends : {k : Known} {ts : List Terms} {points : List ℕ} {n budget : ℕ} {r : Run} → Affords k ts points n budget → PointsFound k ts points n budget r
    → (run_outcome budget r).number ≡ 15 → ⊥
never_ends affords (all-passed e h before) is = omega arith
never_ends affords (some_false inside before known hold more e f) is = omega arith
never_ends {k} {ts} {points} {n} affords (not_begun {p = p} inside before named more e f) is =
    let has : ℕ → ℕ = λ q. point_cost (definitions_of k.defined) (functions_with k ts) (point_of k points q) k.assumptions k.constraints in
    omega (arith, within_point k ts points p named more, sum-next has p, sum_most has 0 (p + 1) n (omega arith))

-- Nor in a verdict.
verdict_ends : {response : List ℕ} {k : Known} {bs : List Body} {points : List ℕ} {n budget : ℕ} {o : Outcome} {a w : List ℕ}
    → points_of (named_sorts k.variables) points ≡ Ok n → Affords k (terms_of bs) points n budget → Judgement response k bs points budget o a w
    → o.number ≡ 15 → ⊥
verdict_ends good affords (underived u) is = omega arith
verdict_ends good affords (points_refused s e) is = omega arith
verdict_ends {k = k} {bs} {points} {n} {budget} good affords (evaluated {n = m} s e) is =
    let same : n ≡ m = cc in
    never_ends (subst (λ (c : ℕ). Affords k (terms_of bs) points c budget) same affords) (run_found k (terms_of bs) points m budget) is

-- 0 says that every constraint is true at every point whose assumptions hold, and 14 names a point whose assumptions hold and a constraint that is false there,
-- whatever the budget is.
pub truthful : {script response points : List ℕ} {budget : ℕ} {area : List ℕ} {k : Known} {bs : List Body} {o : Outcome} {a w : List ℕ}
    → Passing script response points area k bs → Checked script response points budget area o a w → Truthful k (terms_of bs) points o
truthful {script} {points = points} {k = k} {bs} {o} passing c =
    let order = in_order passing c in
    record {
      accepted = λ e n good p d at hold known.
          let h = order.accepted e in
          let whole = h.whole in
          let same : h.n ≡ n = cc in
          true_value (values_on k (terms_of bs) points p (get_or k.constraints d none)) (h.passed p (omega arith) hold d known);
      constraint_false = λ e.
          let h = order.constraint_false e in
          let at = h.0 in
          let shows : Showing o.number = subst Showing (sym e) constraint_false in
          let derived = verdict_derived (split (of_passing passing c)) (showing shows) in
          let right = points_right script passing.says points at.whole o.place at.point in
          let truth = valued script passing.says derived right (member_behind k.assumptions k.constraints o.second at.constraint) in
          record { named = at; assumed = h.2; is_false = false_value truth h.4 };
    }

-- A budget that is at least the summed cost of all the evaluations does not end.
pub enough : {script response points : List ℕ} {budget : ℕ} {area : List ℕ} {k : Known} {bs : List Body} {n : ℕ} {o : Outcome} {a w : List ℕ}
    → Passing script response points area k bs → points_of (named_sorts k.variables) points ≡ Ok n → Affords k (terms_of bs) points n budget
    → Checked script response points budget area o a w → o.number ≡ 15 → ⊥
enough passing good affords c = verdict_ends good affords (of_passing passing c)

-- "So once bodies are derived and points have passed, and the budget is at least the summed cost of all the evaluations, the answer can only be accepted or a
-- named false constraint."
pub decided : {script response points : List ℕ} {budget : ℕ} {area : List ℕ} {k : Known} {bs : List Body} {n : ℕ} {o : Outcome} {a w : List ℕ}
    → Passing script response points area k bs → Derived (in_script_order k.functions) (terms_of bs)
    → points_of (named_sorts k.variables) points ≡ Ok n → Affords k (terms_of bs) points n budget
    → Checked script response points budget area o a w → Decided k (terms_of bs) points n o
decided {points = points} {k = k} {bs} {n} {o} passing derived good affords c =
    go o.number refl (verdict_showing derived good (of_passing passing c))
  where
    go : (number : ℕ) → o.number ≡ number → Showing number → Decided k (terms_of bs) points n o
    go number e accepted = all_true e ((truthful passing c).accepted e n good)
    go number e constraint_false = named_false e ((truthful passing c).constraint_false e)
    go number e budget_ended = absurd (enough passing good affords c e)

-- What a run over the points finds: what it has spent, which constraints it found true, and at how many points all assumptions held.
use Prim.Native.Nat.{ℕ, zero, suc, ◌+◌, ◌-◌, ◌≤◌, ◌<◌}
use native.Mathlib.Numerals.{add-one}
use native.Mathlib.Omega.{arith}
use native.Mathlib.Nat.{eq-or-lt_of_le}
use mathlib.Core.Bool.{Bool, true, false, cond}
use mathlib.Core.List.{List, [], ◌∷◌}
use mathlib.Core.Logic.{◌⊎◌, inl, inr}
use mathlib.Core.Path.{◌≡◌, refl, ap, subst, sym, ◌∙◌}
use borrow.Author.Tests.{leb-false, leb-true}
use lib.Dec.{leb}
use lib.ListN.{get_or, length, take}
use Rattle.forest.specs.Forest.{none}
use Rattle.forest.specs.Limits.{first_assumption}
use Rattle.forest.proofs.Bools.{apart}
use Rattle.terms.specs.Costs.{cost_of}
use Rattle.terms.specs.Labels.{Terms}
use Rattle.terms.specs.Sorts.{Definition}
use Rattle.terms.specs.Values.{values_at}
use Rattle.terms.specs.declared.Value.{Value}
use Rattle.evaluation.specs.Running.{all_passed, is_true_value, left_of, run, run_point, run_points, run_terms, skipping}
use Rattle.evaluation.specs.declared.Ran.{Ran}
use Rattle.evaluation.specs.declared.Ran.TheVariants.{Passed, False, Ended}
use Rattle.evaluation.specs.declared.Run.{Run}
use Rattle.names.specs.Scopes.{named_sorts}
use Rattle.script.specs.Script.{Known, definitions_of}
use Rattle.outcome.specs.Demands.{PassedBefore, TermNamed, TrueBefore, assumed_at, assumption_named, constraint_named, cost_before, cost_on, cost_with}
use Rattle.outcome.specs.Demands.{held_before, point_of, spent_before, values_on, TrueTo as TrueAt}
use Rattle.outcome.specs.Evaluated.{functions_with, ran_with}
use Rattle.outcome.specs.Units.{point_cost, sum_from, summed}
use Rattle.outcome.proofs.Assumed.{TrueTo, all_hold_lem, cost_all, cost_to, holds, not_all}
use Rattle.outcome.proofs.Sums.{sum-next}

module _ (defs funs : List Definition) where
  -- One true term more in front.
  true_more : (point : List Value) (t : Terms) (ts : List Terms) (i : ℕ) → is_true_value (values_at defs funs point t) ≡ true → TrueTo defs funs point ts i
      → TrueTo defs funs point (t ∷ ts) (suc i)
  true_more point t ts i h more zero l = h
  true_more point t ts i h more (suc j) l = more j (omega arith)

  -- What running terms at point p, from number k on, finds: all are true; or the one with number i here is false, or costs more than is left.
  data TermsFound (point : List Value) (ts : List Terms) (p k left : ℕ) : Ran → Type 0 where
    passed : {rest : ℕ} → rest + summed defs funs ts ≡ left → TrueTo defs funs point ts (length ts) → TermsFound point ts p k left (Passed rest)
    stopped : {c rest : ℕ} (i : ℕ) → c ≡ k + i → i < length ts → TrueTo defs funs point ts i → rest + summed defs funs (take (suc i) ts) ≡ left
        → holds defs funs point ts i ≡ false → TermsFound point ts p k left (False p c rest)
    ended : {c rest : ℕ} (i : ℕ) → c ≡ k + i → i < length ts → TrueTo defs funs point ts i → rest + summed defs funs (take i ts) ≡ left
        → left < summed defs funs (take (suc i) ts) → TermsFound point ts p k left (Ended p c rest)

  -- The same with one true term in front, that what was left paid for.
  found_more : (point : List Value) (t : Terms) (ts : List Terms) (p k left : ℕ) {ran : Ran} → cost_of defs funs t ≤ left
      → is_true_value (values_at defs funs point t) ≡ true → TermsFound point ts p (k + 1) (left - cost_of defs funs t) ran → TermsFound point (t ∷ ts) p k left ran
  unfolding summed
  found_more point t ts p k left l h (passed {rest = rest} e more) = passed {rest = rest} (omega arith) (true_more point t ts (length ts) h more)
  found_more point t ts p k left l h (stopped {c = c} {rest = rest} i n inside more e f) =
      stopped {c = c} {rest = rest} (suc i) (omega arith) (omega arith) (true_more point t ts i h more) (omega arith) f
  found_more point t ts p k left l h (ended {c = c} {rest = rest} i n inside more e f) =
      ended {c = c} {rest = rest} (suc i) (omega arith) (omega arith) (true_more point t ts i h more) (omega arith) (omega arith)

  -- What running terms finds.
  terms_found : (point : List Value) (ts : List Terms) (p k left : ℕ) → TermsFound point ts p k left (run_terms defs funs point ts p k left)
  unfolding run_terms summed
  terms_found point [] p k left = passed {rest = left} (omega arith) (λ j h. absurd (omega arith))
  terms_found point (t ∷ ts) p k left =
      paid (leb (cost_of defs funs t) left) refl (is_true_value (values_at defs funs point t)) refl (terms_found point ts p (k + 1) (left - cost_of defs funs t))
    where
      paid : (enough : Bool) → leb (cost_of defs funs t) left ≡ enough → (is : Bool) → is_true_value (values_at defs funs point t) ≡ is → {later : Ran}
          → TermsFound point ts p (k + 1) (left - cost_of defs funs t) later
          → TermsFound point (t ∷ ts) p k left (cond enough (cond is later (False p k (left - cost_of defs funs t))) (Ended p k left))
      paid true l true h later = found_more point t ts p k left (leb-true _ _ l) h later
      paid true l false h later =
          let paid_for = leb-true (cost_of defs funs t) left l in
          stopped {c = k} {rest = left - cost_of defs funs t} 0 (omega arith) (omega arith) (λ j b. absurd (omega arith)) (omega arith) h
      paid false l is h later =
          let dear = leb-false (cost_of defs funs t) left l in
          ended {c = k} {rest = left} 0 (omega arith) (omega arith) (λ j b. absurd (omega arith)) (omega arith) (omega arith)

module _ (k : Known) (ts : List Terms) (points : List ℕ) where
  -- The cost of point p.
  abbrev cost_at : (p : ℕ) → ℕ
  cost_at p = point_cost (definitions_of k.defined) (functions_with k ts) (point_of k points p) k.assumptions k.constraints

  -- What running terms at point p, from number m on, finds.
  abbrev Found : (terms : List Terms) → (p m left : ℕ) → Ran → Type 0
  Found terms p m left ran = TermsFound (definitions_of k.defined) (functions_with k ts) (point_of k points p) terms p m left ran

  -- What running the constraints at point p finds.
  abbrev constraints_ran : (p left : ℕ) → Ran
  constraints_ran p left = run_terms (definitions_of k.defined) (functions_with k ts) (point_of k points p) k.constraints p 0 left

  -- What running point p finds: all constraints are true, if all assumptions hold; or they do, and constraint c is false; or a term costs more than is left.
  data PointFound (p left : ℕ) : Run → Type 0 where
    point_passed : {held rest : ℕ} → rest + cost_at p ≡ left → held ≡ cond (assumed_at k ts points p) 1 0
        → (assumed_at k ts points p ≡ true → TrueAt k ts points p k.constraints (length k.constraints)) → PointFound p left (run held (Passed rest))
    point_stopped : {c rest : ℕ} → c < length k.constraints → assumed_at k ts points p ≡ true → TrueAt k ts points p k.constraints c
        → rest + (cost_on k ts k.assumptions + cost_on k ts (take (suc c) k.constraints)) ≡ left
        → is_true_value (values_on k ts points p (get_or k.constraints c none)) ≡ false → PointFound p left (run 1 (False p c rest))
    point_ended : {held number rest : ℕ} (named : TermNamed k number) → TrueBefore k ts points p named → rest + cost_before k ts named ≡ left
        → left < cost_with k ts named → PointFound p left (run held (Ended p number rest))

  -- The constraints at a point whose assumptions hold.
  constraints_found : (p left rest : ℕ) {ran : Ran} → rest + cost_on k ts k.assumptions ≡ left → assumed_at k ts points p ≡ true
      → Found k.constraints p 0 rest ran → PointFound p left (run 1 ran)
  constraints_found p left rest paid hold (passed {rest = last} e all) =
      let cost = cost_all (definitions_of k.defined) (functions_with k ts) (point_of k points p) k.assumptions hold in
      point_passed {held = 1} {rest = last} (rw hold (omega arith)) (rw hold refl) (λ h. all)
  constraints_found p left rest paid hold (stopped {c = c} {rest = last} i at inside more e f) =
      let same : i ≡ c = omega arith in
      subst (λ (x : ℕ). PointFound p left (run 1 (False p x last))) same (point_stopped {c = i} {rest = last} inside hold more (omega arith) f)
  constraints_found p left rest paid hold (ended {c = c} {rest = last} i at inside more e f) =
      let same : i ≡ c = omega arith in
      let one = ap (λ (x : ℕ). cost_on k ts (take x k.constraints)) (add-one i) in
      subst (λ (x : ℕ). PointFound p left (run 1 (Ended p x last))) same
      (point_ended {held = 1} {number = i} {rest = last} (constraint_named {c = i} inside) (hold, more) (omega arith) (omega arith))

  -- The constraints are run where all assumptions are true.
  assumptions_found : (p left : ℕ) {ran : Ran} → Found k.assumptions p first_assumption left ran
      → ((rest : ℕ) → Found k.constraints p 0 rest (constraints_ran p rest))
      → PointFound p left (cond (all_passed ran) (run 1 (constraints_ran p (left_of ran))) (run 0 (skipping ran)))
  assumptions_found p left (passed {rest = rest} e all) later =
      let hold = all_hold_lem (definitions_of k.defined) (functions_with k ts) (point_of k points p) k.assumptions all in
      constraints_found p left rest e hold (later rest)
  assumptions_found p left (stopped {c = c} {rest = rest} i at inside more e f) later =
      let fails = not_all (definitions_of k.defined) (functions_with k ts) (point_of k points p) k.assumptions i inside f in
      let cost = cost_to (definitions_of k.defined) (functions_with k ts) (point_of k points p) k.assumptions i inside more f in
      point_passed {held = 0} {rest = rest} (rw fails (omega arith)) (rw fails refl) (λ h. apart (sym fails ∙ h))
  assumptions_found p left (ended {c = c} {rest = rest} i at inside more e f) later =
      let one = ap (λ (x : ℕ). cost_on k ts (take x k.assumptions)) (add-one i) in
      subst (λ (x : ℕ). PointFound p left (run 0 (Ended p x rest))) (sym at)
      (point_ended {held = 0} {number = first_assumption + i} {rest = rest} (assumption_named {a = i} inside) more (omega arith) (omega arith))

  -- What running a point finds.
  point_found : (p left : ℕ)
      → PointFound p left (run_point (definitions_of k.defined) (functions_with k ts) (point_of k points p) k.assumptions k.constraints p left)
  unfolding run_point
  point_found p left =
      let at = point_of k points p in
      assumptions_found p left (terms_found (definitions_of k.defined) (functions_with k ts) at k.assumptions p first_assumption left)
      (λ rest. terms_found (definitions_of k.defined) (functions_with k ts) at k.constraints p 0 rest)

  -- All constraints are true at the points before one more, where they are at the points before it and at it.
  passed_more : (p : ℕ) → PassedBefore k ts points p
      → (assumed_at k ts points p ≡ true → TrueAt k ts points p k.constraints (length k.constraints)) → PassedBefore k ts points (p + 1)
  passed_more p before here q l = go (eq-or-lt_of_le l)
    where
      go : (suc q ≡ p + 1) ⊎ (suc q < p + 1) → assumed_at k ts points q ≡ true → TrueAt k ts points q k.constraints (length k.constraints)
      go (inl e) =
          let same : p ≡ q = omega arith in
          subst (λ (x : ℕ). assumed_at k ts points x ≡ true → TrueAt k ts points x k.constraints (length k.constraints)) same here
      go (inr h) = before q (omega arith)

  module _ (n budget : ℕ) where
    -- What running n points finds: all are done; or at point p, all points before it being done, constraint c is false, or a term costs more than is left.
    pub data PointsFound : Run → Type 0 where
      all-passed : {held rest : ℕ} → rest + spent_before k ts points n ≡ budget → held ≡ held_before k ts points n → PassedBefore k ts points n
          → PointsFound (run held (Passed rest))
      some_false : {held p c rest : ℕ} → p < n → PassedBefore k ts points p → c < length k.constraints → assumed_at k ts points p ≡ true
          → TrueAt k ts points p k.constraints c
          → rest + (spent_before k ts points p + (cost_on k ts k.assumptions + cost_on k ts (take (suc c) k.constraints))) ≡ budget
          → is_true_value (values_on k ts points p (get_or k.constraints c none)) ≡ false → PointsFound (run held (False p c rest))
      not_begun : {held p number rest : ℕ} → p < n → PassedBefore k ts points p → (named : TermNamed k number) → TrueBefore k ts points p named
          → rest + (spent_before k ts points p + cost_before k ts named) ≡ budget → budget < spent_before k ts points p + cost_with k ts named
          → PointsFound (run held (Ended p number rest))

    -- The points behind p are run where the run goes on.
    points_behind : (m p held left : ℕ) {here : Run} → p + suc m ≡ n → left + spent_before k ts points p ≡ budget → held ≡ held_before k ts points p
        → PassedBefore k ts points p → PointFound p left here → (later : (held left : ℕ) → Run)
        → ((h l : ℕ) → l + spent_before k ts points (p + 1) ≡ budget → h ≡ held_before k ts points (p + 1) → PassedBefore k ts points (p + 1)
        → PointsFound (later h l))
        → PointsFound (cond (all_passed here.ran) (later (held + here.held) (left_of here.ran)) (run (held + here.held) here.ran))
    points_behind m p held left some paid counted before (point_passed {held = one} {rest = rest} e h true-here) later found =
        found (held + one) rest (omega (arith, sum-next cost_at p)) (omega (arith, sum-next (λ (q : ℕ). cond (assumed_at k ts points q) 1 0) p))
        (passed_more p before true-here)
    points_behind m p held left some paid counted before (point_stopped {c = c} {rest = rest} inside hold more e f) later found =
        some_false {held = held + 1} {p = p} {c = c} {rest = rest} (omega arith) before inside hold more (omega arith) f
    points_behind m p held left some paid counted before (point_ended {held = one} {number = number} {rest = rest} named more e f) later found =
        not_begun {held = held + one} {p = p} {number = number} {rest = rest} (omega arith) before named more (omega arith) (omega arith)

    -- What running the last m points finds.
    points_found : (m p held left : ℕ) → p + m ≡ n → left + spent_before k ts points p ≡ budget → held ≡ held_before k ts points p
        → PassedBefore k ts points p
        → PointsFound (run_points (definitions_of k.defined) (functions_with k ts) (named_sorts k.variables) points k.assumptions k.constraints
        m p held left)
    unfolding run_points
    points_found zero p held left some paid counted before =
        let same : p ≡ n = omega arith in
        all-passed {held = held} {rest = left} (subst (λ (x : ℕ). left + spent_before k ts points x ≡ budget) same paid)
        (subst (λ (x : ℕ). held ≡ held_before k ts points x) same counted) (subst (PassedBefore k ts points) same before)
    points_found (suc m) p held left some paid counted before =
        points_behind m p held left some paid counted before (point_found p left)
        (run_points (definitions_of k.defined) (functions_with k ts) (named_sorts k.variables) points k.assumptions k.constraints m (p + 1))
        (λ h l. points_found m (p + 1) h l (omega arith))

    -- What the run over all points finds.
    pub run_found : PointsFound (ran_with k ts points n budget)
    unfolding sum_from
    run_found = points_found n 0 0 budget (omega arith) (omega arith) refl (λ q l. absurd (omega arith))

-- Arguments tested one after the other, and steps run one after the other.
use Prim.Native.Nat.{ℕ, suc, ◌+◌, ◌*◌, ◌/◌, ◌%◌, ◌≤◌, ◌<◌}
use native.Mathlib.Omega.{arith}
use mathlib.Core.Path.{◌≡◌, refl, sym, ap, ◌∙◌, subst}
use mathlib.Core.Bool.{Bool, true, false, cond, not, ◌&&◌, true≢false}
use mathlib.Core.List.{List, [], ◌∷◌}
use mathlib.Core.Option.{Option as StackIfAny, none as nothing, some}
use Rattle.std.specs.Prelude.{MatchOption, Option, None, Some, Ok, Err, is_some}
use Rattle.std.specs.List.{position_from, zip}
use Rattle.std.proofs.lemmas.Iterator.Adapters.{position_from-zero}
use borrow.Author.Tests.{eq-eqb, eqb-false, eqb-true, leb-true, lt-ltb, ltb-true, ne_eqb}
use lib.Dec.{eqb, leb, ltb}
use lib.ListN.{drop, drop_of_length-le, get_or, length, length-drop, length-replicate, take}
use lib.Seq.{get_or-take}
use Rattle.forest.proofs.Bools.{and_left, and_right}
use Rattle.forest.proofs.Lists.{drop_next}
use Rattle.operators.specs.Sorts.{AllFit, Fit, max_width, values_of}
use Rattle.operators.specs.Sorts.AllFit.{no_more, also}
use Rattle.steps.specs.Stack.{as_values, ended, ended_with, first_bad, fits, go_on, most_values, ran, run_from, step_on, stopped, turned}
use Rattle.steps.specs.declared.Step.{Step}
use Rattle.steps.specs.declared.Refusal.TheVariants.{BadArgument, BadStep}
use Rattle.terms.specs.Values.{value}
use Rattle.terms.specs.declared.Value.{Value}
use Rattle.runner.specs.code.Running.{OneStep, Prepared, bad_argument, step_in}
use Rattle.runner.specs.code.Stack.{Held, IsEmpty, Stepped, no_values}
use Rattle.runner.specs.code.Stack.Stepped.{done, not_done}

-- Where there is no bad argument, all fit, and where there is one, it is the first.
pub bad_told : (sorts arguments : List ℕ) → length sorts ≡ length arguments → (n : ℕ)
    → MatchOption (position_from (λ (a : ℕ × ℕ). not (fits a.0 a.1)) n (zip sorts arguments)) (AllFit sorts arguments × (first_bad n sorts arguments ≡ n + length arguments))
    (λ k. (first_bad n sorts arguments ≡ k) × (k < n + length arguments))
unfolding first_bad
bad_told [] [] c n = (no_more, omega arith)
bad_told [] (v ∷ vs) c n = absurd (omega arith)
bad_told (s ∷ ss) [] c n = absurd (omega arith)
bad_told (s ∷ ss) (v ∷ vs) c n = by_case (fits s v) refl (position_from (λ (a : ℕ × ℕ). not (fits a.0 a.1)) (n + 1) (zip ss vs)) (bad_told ss vs (omega arith) (n + 1))
  where
    fit : fits s v ≡ true → Fit s v
    fit e = record {
      sort = leb-true s max_width (and_left (leb s max_width) (ltb v (values_of s)) e);
      value = ltb-true v (values_of s) (and_right (leb s max_width) (ltb v (values_of s)) e);
    }

    by_case : (t : Bool) → fits s v ≡ t → (m : Option ℕ)
        → MatchOption m (AllFit ss vs × (first_bad (n + 1) ss vs ≡ n + 1 + length vs)) (λ k. (first_bad (n + 1) ss vs ≡ k) × (k < n + 1 + length vs))
        → MatchOption (cond (not t) (Some n) m) (AllFit (s ∷ ss) (v ∷ vs) × (cond t (first_bad (n + 1) ss vs) n ≡ n + suc (length vs)))
        (λ k. (cond t (first_bad (n + 1) ss vs) n ≡ k) × (k < n + suc (length vs)))
    by_case true e None h = (also (fit e) h.0, omega (arith, h.1))
    by_case true e (Some k) h = (h.0, omega (arith, h.1))
    by_case false e m h = (refl, omega arith)

-- An empty stack.
pub held_none : Held no_values no_values 0 []
unfolding no_values turned
held_none = record {
  numbers_are = refl;
  sorts_are = refl;
  fit = no_more;
  counted = refl;
  most = omega arith;
  values_long = length-replicate {A = ℕ} most_values 0;
  sorts_long = length-replicate {A = ℕ} most_values 0;
}

-- Step k and those behind it, where it is whole.
step_next : (steps : List ℕ) (k : ℕ) → k < length steps / 4
    → drop (4 * k) steps ≡ (step_in steps k).first ∷ (step_in steps k).second ∷ (step_in steps k).third ∷ (step_in steps k).fourth ∷ drop (4 * (k + 1)) steps
step_next steps k h =
    let whole : 4 * k + 3 < length steps = omega arith in
    let one : 4 * k + 1 + 1 ≡ 4 * k + 2 = omega arith in
    let two : 4 * k + 2 + 1 ≡ 4 * k + 3 = omega arith in
    let three : 4 * k + 3 + 1 ≡ 4 * (k + 1) = omega arith in
    drop_next steps (4 * k) (omega arith)
    ∙ ap (λ (l : List ℕ). get_or steps (4 * k) 0 ∷ l) (drop_next steps (4 * k + 1) (omega arith)
    ∙ ap (λ (l : List ℕ). get_or steps (4 * k + 1) 0 ∷ l) (ap (λ (n : ℕ). drop n steps) one ∙ drop_next steps (4 * k + 2) (omega arith)
    ∙ ap (λ (l : List ℕ). get_or steps (4 * k + 2) 0 ∷ l) (ap (λ (n : ℕ). drop n steps) two ∙ drop_next steps (4 * k + 3) (omega arith)
    ∙ ap (λ (n : ℕ). get_or steps (4 * k + 3) 0 ∷ drop n steps) three)))

-- The steps before k are run, and gave the stack that the tables hold.
pub record Reached (sorts arguments steps values stackSorts : List ℕ) (top k : ℕ) : Type 0 where
  pub stack : List Value
  pub held : Held values stackSorts top stack
  pub low : k ≤ length steps / 4
  pub so_far : run_from (as_values sorts arguments) k (drop (4 * k) steps) stack ≡ run_from (as_values sorts arguments) 0 steps []

-- Nothing is run at the start.
pub reached_none : (sorts arguments steps : List ℕ) {values stackSorts : List ℕ} {top : ℕ} → IsEmpty values stackSorts top
    → Reached sorts arguments steps values stackSorts top 0
reached_none sorts arguments steps e =
    record { stack = []; held = rw (e.no_numbers, e.no_sorts, e.none) held_none; low = omega arith; so_far = refl }

-- A step that is refused, or not.
refused_none : {values stackSorts : List ℕ} {top : ℕ} {m : StackIfAny (List Value)} → Stepped values stackSorts top None m → m ≡ nothing
refused_none not_done = refl

pub record Went (values stackSorts : List ℕ) (top : ℕ) (m : StackIfAny (List Value)) : Type 0 where
  pub stack : List Value
  pub is : m ≡ some stack
  pub held : Held values stackSorts top stack

went : {values stackSorts : List ℕ} {top : ℕ} {m : StackIfAny (List Value)} → Stepped values stackSorts top (Some tt) m → Went values stackSorts top m
went (done {stack = stack} held) = record { stack = stack; is = refl; held = held }

-- A step that is cut short.
cut_short : (arguments : List Value) (k : ℕ) (l : List ℕ) (st : List Value) → 0 < length l → length l < 4 → stopped k ≡ run_from arguments k l st
unfolding run_from
cut_short arguments k [] st h m = absurd (omega arith)
cut_short arguments k (a ∷ []) st h m = refl
cut_short arguments k (a ∷ b ∷ []) st h m = refl
cut_short arguments k (a ∷ b ∷ c ∷ []) st h m = refl
cut_short arguments k (a ∷ b ∷ c ∷ d ∷ l) st h m = absurd (omega arith)

-- A stack that does not end with one value.
ended_other : (n : ℕ) (st : List Value) → (length st ≡ 1 → ⊥) → Err (BadStep n) ≡ ended_with n (ended st)
ended_other n [] h = refl
ended_other n (v ∷ []) h = absurd (h refl)
ended_other n (v ∷ u ∷ more) h = refl

-- The first number of a list.
first_of : (l : List ℕ) (x : ℕ) → take 1 l ≡ x ∷ [] → get_or l 0 0 ≡ x
first_of l x e = sym (get_or-take 1 l 0 0 (omega arith)) ∙ ap (λ (m : List ℕ). get_or m 0 0) e

-- A stack of one value.
single : {values stackSorts : List ℕ} (st : List Value) → Held values stackSorts 1 st → st ≡ value (get_or stackSorts 0 0) (get_or values 0 0) ∷ []
unfolding turned
single [] h = absurd (omega (arith, h.counted))
single {values} {stackSorts} (v ∷ []) h = rw (first_of values v.number h.numbers_are, first_of stackSorts v.sort h.sorts_are)
single (v ∷ u ∷ more) h = absurd (omega (arith, h.counted))

module _ {sorts arguments steps values stackSorts : List ℕ} {top k : ℕ} (fit : AllFit sorts arguments)
    (s : Reached sorts arguments steps values stackSorts top k) where
  -- A step can be run.
  pub prepared : Prepared sorts arguments values stackSorts top
  prepared = record { fit = fit; ready = record { stack = s.stack; held = s.held } }

  module _ (h : k < length steps / 4) {step : Step} (step_is : step ≡ step_in steps k) where
    -- What it gives.
    abbrev outcome : StackIfAny (List Value)
    outcome = step_on (as_values sorts arguments) step.first step.second step.third step.fourth s.stack

    gave : {values' stackSorts' : List ℕ} {top' : ℕ} {r : Option (Unit {0})} → OneStep sorts arguments step values stackSorts top values' stackSorts' top' r
        → Stepped values' stackSorts' top' r outcome
    unfolding prepared
    gave one = one prepared

    -- The run goes on with it.
    goes : go_on k outcome (λ (next : List Value). run_from (as_values sorts arguments) (k + 1) (drop (4 * (k + 1)) steps) next)
        ≡ run_from (as_values sorts arguments) 0 steps []
    unfolding run_from
    goes = rw step_is (rw (step_next steps k h) at s.so_far)

    -- The step is refused.
    pub step_refused : (n : ℕ) {values' stackSorts' : List ℕ} {top' : ℕ} (r : Option (Unit {0}))
        → OneStep sorts arguments step values stackSorts top values' stackSorts' top' r → is_some r ≡ false
        → Err (BadStep k) ≡ ended_with n (run_from (as_values sorts arguments) 0 steps [])
    step_refused n (Some u) one e = absurd (true≢false e)
    step_refused n None one e =
        let stops : stopped k ≡ run_from (as_values sorts arguments) 0 steps [] = rw (refused_none (gave one)) at goes in
        ap (ended_with n) stops

    -- The step is done.
    pub step_done : {values' stackSorts' : List ℕ} {top' : ℕ} (r : Option (Unit {0}))
        → OneStep sorts arguments step values stackSorts top values' stackSorts' top' r → is_some r ≡ true
        → Reached sorts arguments steps values' stackSorts' top' (k + 1)
    step_done None one e = absurd (true≢false (sym e))
    step_done (Some u) one e =
        let w = went (gave one) in
        record { stack = w.stack; held = w.held; low = omega arith; so_far = rw w.is at goes }

  module _ (h : length steps / 4 ≤ k) where
    -- All whole steps are run.
    at_end : k ≡ length steps / 4
    at_end = omega (arith, s.low)

    left : length (drop (4 * k) steps) ≡ length steps % 4
    left = length-drop (4 * k) steps ∙ omega (arith, at_end)

    -- None is cut short.
    whole_end : length steps % 4 ≡ 0 → ended s.stack ≡ run_from (as_values sorts arguments) 0 steps []
    unfolding run_from
    whole_end q =
        ap (λ (l : List ℕ). run_from (as_values sorts arguments) k l s.stack) (sym (drop_of_length-le steps {i = 4 * k} (omega (arith, at_end)))) ∙ s.so_far

    -- One is cut short.
    cut_end : (length steps % 4 ≡ 0 → ⊥) → stopped k ≡ run_from (as_values sorts arguments) 0 steps []
    cut_end q = cut_short (as_values sorts arguments) k (drop (4 * k) steps) s.stack (omega (arith, left)) (omega (arith, left)) ∙ s.so_far

    -- One value is left.
    pub value_alone : eqb (length steps % 4) 0 && eqb top 1 ≡ true
        → Ok (value (get_or stackSorts 0 0) (get_or values 0 0))
        ≡ ended_with (length steps / 4) (run_from (as_values sorts arguments) 0 steps [])
    value_alone q =
        let none-cut = eqb-true (length steps % 4) 0 (and_left (eqb (length steps % 4) 0) (eqb top 1) q) in
        let one = eqb-true top 1 (and_right (eqb (length steps % 4) 0) (eqb top 1) q) in
        let is = single s.stack (rw one at s.held) in
        ap (λ (st : List Value). ended_with (length steps / 4) (ended st)) (sym is) ∙ ap (ended_with (length steps / 4)) (whole_end none-cut)

    -- It is not so.
    pub not_alone : eqb (length steps % 4) 0 && eqb top 1 ≡ false
        → Err (BadStep (length steps / 4)) ≡ ended_with (length steps / 4) (run_from (as_values sorts arguments) 0 steps [])
    not_alone q = by_case (eqb (length steps % 4) 0) refl q
      where
        by_case : (whole : Bool) → eqb (length steps % 4) 0 ≡ whole → whole && eqb top 1 ≡ false
            → Err (BadStep (length steps / 4)) ≡ ended_with (length steps / 4) (run_from (as_values sorts arguments) 0 steps [])
        by_case true e f =
            ended_other (length steps / 4) s.stack (λ z. eqb-false top 1 f (sym s.held.counted ∙ z))
            ∙ ap (ended_with (length steps / 4)) (whole_end (eqb-true (length steps % 4) 0 e))
        by_case false e f = ap (λ (n : ℕ). Err (BadStep n)) (sym at_end) ∙ ap (ended_with (length steps / 4)) (cut_end (eqb-false (length steps % 4) 0 e))

module _ (sorts arguments steps : List ℕ) where
  -- Another count of arguments than of sorts.
  pub counts_differ : (length sorts ≡ length arguments → ⊥) → Err (BadArgument (length arguments)) ≡ ran sorts arguments steps
  unfolding ran
  counts_differ n = rw (ne_eqb (length sorts) (length arguments) n)

  module _ (counts : length sorts ≡ length arguments) where
    bad_as : (found : Option ℕ) → found ≡ bad_argument sorts arguments
        → MatchOption found (AllFit sorts arguments × (first_bad 0 sorts arguments ≡ 0 + length arguments))
        (λ k. (first_bad 0 sorts arguments ≡ k) × (k < 0 + length arguments))
    bad_as found is =
        subst
        (λ (m : Option ℕ). MatchOption m (AllFit sorts arguments × (first_bad 0 sorts arguments ≡ 0 + length arguments))
        (λ k. (first_bad 0 sorts arguments ≡ k) × (k < 0 + length arguments)))
        (sym (is ∙ position_from-zero (λ (a : ℕ × ℕ). not (fits a.0 a.1)) (zip sorts arguments))) (bad_told sorts arguments counts 0)

    -- An argument that is bad.
    pub argument_bad : {bad : ℕ} → Some bad ≡ bad_argument sorts arguments → Err (BadArgument bad) ≡ ran sorts arguments steps
    unfolding ran
    argument_bad {bad} is =
        let told = bad_as (Some bad) is in
        rw (eq-eqb (length sorts) (length arguments) counts, told.0, lt-ltb bad (length arguments) (omega (arith, told.1)))

    -- None is.
    pub none_is : None ≡ bad_argument sorts arguments → AllFit sorts arguments
    none_is is = (bad_as None is).0

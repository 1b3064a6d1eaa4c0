-- One step, by what it does.
use Prim.Native.Nat.{ℕ, ◌≤◌, ◌<◌}
use native.Mathlib.Omega.{arith}
use mathlib.Core.Path.{◌≡◌, refl, sym, ap, ◌∙◌}
use mathlib.Core.Bool.{Bool, true, false, not, ◌&&◌, ◌||◌, and-false}
use mathlib.Core.List.{List, ◌∷◌}
use mathlib.Core.Option.{Option as StackIfAny, none as nothing}
use Rattle.std.specs.Prelude.{None, Option}
use borrow.Author.Tests.{eq-eqb, le-leb, le-ltb, leb-true, lt-leb, lt-ltb, ltb-true, ne_eqb, not-false, not-true}
use lib.Dec.{eqb, leb, ltb}
use lib.ListN.{get_or, length, length-map}
use Rattle.forest.proofs.Bools.{and_left, and_right, apart}
use Rattle.operators.specs.Sorts.{AllFit, max_width, values_of}
use Rattle.operators.specs.Sorts.AllFit.{no_more, also}
use Rattle.operators.specs.code.Operators.{extract_number}
use Rattle.steps.proofs.Labels.{extract_is}
use Rattle.steps.specs.Stack.{as_values, fits, step_on}
use Rattle.steps.specs.Steps.{apply_operator, push_argument, push_constant}
use Rattle.steps.specs.declared.Step.{Step}
use Rattle.terms.proofs.Sound.{fit_at}
use Rattle.terms.specs.Values.{numbers_in, sorts_in, value}
use Rattle.terms.specs.declared.Value.{Value}
use Rattle.runner.specs.code.Running.{ArgumentStep, ConstantStep, OperatorStep, OneStep, Prepared, argument_on, constant_on, operator_on}
use Rattle.runner.specs.code.Stack.{Applying, Pushable, Pushing, Ready, Stepped}
use Rattle.runner.specs.code.Stack.Stepped.{not_done}

-- A number that is no sort.
pub no_sort : (sort number : ℕ) → max_width < sort → false ≡ fits sort number
no_sort sort number h = rw (lt-leb sort max_width h)

-- A sort, and whether a number is a value of it.
pub value_told : (sort number : ℕ) {t : Bool} → sort ≤ max_width → t ≡ ltb number (values_of sort) → t ≡ fits sort number
value_told sort number h e = e ∙ (rw (le-leb sort max_width h))

-- The sorts and the numbers of arguments that fit.
pub sorts_given : {ss vs : List ℕ} → AllFit ss vs → sorts_in (as_values ss vs) ≡ ss
unfolding as_values
sorts_given no_more = refl
sorts_given (also {s = s} f more) = ap (λ (l : List ℕ). s ∷ l) (sorts_given more)

pub numbers_given : {ss vs : List ℕ} → AllFit ss vs → numbers_in (as_values ss vs) ≡ vs
unfolding as_values
numbers_given no_more = refl
numbers_given (also {v = v} f more) = ap (λ (l : List ℕ). v ∷ l) (numbers_given more)

-- There are as many.
pub given_length : {ss vs : List ℕ} → AllFit ss vs → (length (as_values ss vs) ≡ length ss) × (length (as_values ss vs) ≡ length vs)
given_length {ss} {vs} a = (
  sym (length-map (as_values ss vs) (λ (v : Value). v.sort)) ∙ ap length (sorts_given a),
  sym (length-map (as_values ss vs) (λ (v : Value). v.number)) ∙ ap length (numbers_given a),
)

-- Two numbers of which one is not 0.
one_used : (x a b : Bool) → not a || not b ≡ true → (x && a && b) ≡ false
one_used x true true h = apart h
one_used x true false h = and-false (x && true)
one_used x false b h = ap (λ (y : Bool). y && b) (and-false x)

none_used : (a b : Bool) → not a || not b ≡ false → (a ≡ true) × (b ≡ true)
none_used true true h = (refl, refl)
none_used true false h = apart (sym h)
none_used false b h = apart (sym h)

module _ {sorts arguments values stackSorts : List ℕ} {top : ℕ} (s : Step) (e : Prepared sorts arguments values stackSorts top) where
  -- An unused number that is not 0.
  pub argument_malformed : not (eqb s.third 0) || not (eqb s.fourth 0) ≡ true
      → Stepped values stackSorts top None (argument_on (as_values sorts arguments) s e.ready.stack)
  argument_malformed h =
      rw (one_used (ltb s.second (length (as_values sorts arguments))) (eqb s.third 0) (eqb s.fourth 0) h) not_done

  -- An argument that is not there.
  pub argument_missing : length arguments ≤ s.second → Stepped values stackSorts top None (argument_on (as_values sorts arguments) s e.ready.stack)
  argument_missing h = rw (le-ltb s.second (length (as_values sorts arguments)) (omega (arith, (given_length e.fit).1))) not_done

  module _ (h : s.second < length arguments) where
    -- One that is there.
    pub argument_place : s.second < length sorts
    argument_place = omega (arith, (given_length e.fit).0, (given_length e.fit).1)

    pub argument_pushable : Pushable values stackSorts top (value (get_or sorts s.second 0) (get_or arguments s.second 0))
    argument_pushable = record { ready = e.ready; fit = fit_at e.fit s.second argument_place }

    pub argument_pushed : {values' stackSorts' : List ℕ} {top' : ℕ} {r : Option (Unit {0})} → not (eqb s.third 0) || not (eqb s.fourth 0) ≡ false
        → Pushing values stackSorts top values' stackSorts' top' (value (get_or sorts s.second 0) (get_or arguments s.second 0)) r
        → Stepped values' stackSorts' top' r (argument_on (as_values sorts arguments) s e.ready.stack)
    unfolding argument_pushable
    argument_pushed u p =
        let z = none_used (eqb s.third 0) (eqb s.fourth 0) u in
        rw (
          lt-ltb s.second (length (as_values sorts arguments)) (omega (arith, (given_length e.fit).1)),
          z.0,
          z.1,
          sorts_given e.fit,
          numbers_given e.fit,
        )
        (p argument_pushable)

module _ {values stackSorts : List ℕ} {top : ℕ} (s : Step) (e : Ready values stackSorts top) where
  -- A constant with an unused number that is not 0.
  pub constant_malformed : (s.fourth ≡ 0 → ⊥) → Stepped values stackSorts top None (constant_on s e.stack)
  constant_malformed h = rw (ne_eqb s.fourth 0 h, and-false) not_done

  module _ {t : Bool} (t-is : t ≡ fits s.third s.second) where
    -- One that is no value of its sort.
    pub constant_wrong : not t ≡ true → Stepped values stackSorts top None (constant_on s e.stack)
    constant_wrong h = let q : fits s.third s.second ≡ false = sym t-is ∙ not-true t h in rw q not_done

    module _ (h : not t ≡ false) where
      -- One that is.
      constant_fits : fits s.third s.second ≡ true
      constant_fits = sym t-is ∙ not-false t h

      pub constant_pushable : Pushable values stackSorts top (value s.third s.second)
      constant_pushable =
          let sort = leb s.third max_width in
          let below = ltb s.second (values_of s.third) in
          record {
            ready = e;
            fit = record {
              sort = leb-true s.third max_width (and_left sort below constant_fits);
              value = ltb-true s.second (values_of s.third) (and_right sort below constant_fits);
            };
          }

      pub constant_pushed : {values' stackSorts' : List ℕ} {top' : ℕ} {r : Option (Unit {0})} → s.fourth ≡ 0
          → Pushing values stackSorts top values' stackSorts' top' (value s.third s.second) r
          → Stepped values' stackSorts' top' r (constant_on s e.stack)
      unfolding constant_pushable
      constant_pushed u p = rw (constant_fits, eq-eqb s.fourth 0 u) (p constant_pushable)

  -- `extract`
  pub cut_applied : {values' stackSorts' : List ℕ} {top' : ℕ} {r : Option (Unit {0})} → s.second ≡ extract_number
      → Applying s.second s.third s.fourth 1 values stackSorts top values' stackSorts' top' r → Stepped values' stackSorts' top' r (operator_on s e.stack)
  cut_applied h p = rw (eq-eqb s.second _ (h ∙ sym extract_is)) (p e)

  module _ (n : s.second ≡ extract_number → ⊥) where
    -- Another operator with an unused number that is not 0.
    pub operator_malformed : (s.fourth ≡ 0 → ⊥) → Stepped values stackSorts top None (operator_on s e.stack)
    operator_malformed h = rw (ne_eqb s.second _ (λ q. n (q ∙ extract_is)), ne_eqb s.fourth 0 h) not_done

    -- Another operator.
    pub operator_applied : {values' stackSorts' : List ℕ} {top' : ℕ} {r : Option (Unit {0})} → s.fourth ≡ 0
        → Applying s.second 0 0 s.third values stackSorts top values' stackSorts' top' r
        → Stepped values' stackSorts' top' r (operator_on s e.stack)
    operator_applied h p = rw (ne_eqb s.second _ (λ q. n (q ∙ extract_is)), eq-eqb s.fourth 0 h) (p e)

-- What a step does, by its kind.
module _ (arguments : List Value) (s : Step) (stack : List Value) where
  abbrev on : StackIfAny (List Value)
  on = step_on arguments s.first s.second s.third s.fourth stack

  argument-on : s.first ≡ push_argument → on ≡ argument_on arguments s stack
  unfolding step_on
  argument-on h = rw (eq-eqb s.first push_argument h)

  module _ (a : s.first ≡ push_argument → ⊥) where
    constant-on : s.first ≡ push_constant → on ≡ constant_on s stack
    unfolding step_on
    constant-on h = rw (ne_eqb s.first push_argument a, eq-eqb s.first push_constant h)

    module _ (b : s.first ≡ push_constant → ⊥) where
      operator-on : s.first ≡ apply_operator → on ≡ operator_on s stack
      unfolding step_on
      operator-on h = rw (ne_eqb s.first push_argument a, ne_eqb s.first push_constant b, eq-eqb s.first apply_operator h)

      none_on : (s.first ≡ apply_operator → ⊥) → on ≡ nothing
      unfolding step_on
      none_on h = rw (ne_eqb s.first push_argument a, ne_eqb s.first push_constant b, ne_eqb s.first apply_operator h)

module _ {sorts arguments values stackSorts : List ℕ} {top : ℕ} (s : Step) {values' stackSorts' : List ℕ} {top' : ℕ} {r : Option (Unit {0})} where
  -- An argument is pushed.
  pub argument_step : s.first ≡ push_argument → ArgumentStep sorts arguments s values stackSorts top values' stackSorts' top' r
      → OneStep sorts arguments s values stackSorts top values' stackSorts' top' r
  argument_step h p e = rw (argument-on (as_values sorts arguments) s e.ready.stack h) (p e)

  module _ (a : s.first ≡ push_argument → ⊥) where
    -- A constant is pushed.
    pub constant_step : s.first ≡ push_constant → ConstantStep s values stackSorts top values' stackSorts' top' r
        → OneStep sorts arguments s values stackSorts top values' stackSorts' top' r
    constant_step h p e = rw (constant-on (as_values sorts arguments) s e.ready.stack a h) (p e.ready)

    module _ (b : s.first ≡ push_constant → ⊥) where
      -- An operator is applied.
      pub operator_step : s.first ≡ apply_operator → OperatorStep s values stackSorts top values' stackSorts' top' r
          → OneStep sorts arguments s values stackSorts top values' stackSorts' top' r
      operator_step h p e = rw (operator-on (as_values sorts arguments) s e.ready.stack a b h) (p e.ready)

-- It does none of these.
pub no_step : {sorts arguments values stackSorts : List ℕ} {top : ℕ} (s : Step) → (s.first ≡ push_argument → ⊥) → (s.first ≡ push_constant → ⊥)
    → (s.first ≡ apply_operator → ⊥) → OneStep sorts arguments s values stackSorts top values stackSorts top None
no_step {sorts} {arguments} s a b h e = rw (none_on (as_values sorts arguments) s e.ready.stack a b h) not_done

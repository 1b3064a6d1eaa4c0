-- What the functions that run steps ask and give.
use Rattle.std.specs.Prelude.{ℕ, ◌+◌, ◌*◌, cond, ◌&&◌, not, List, Option, eqb, ltb, get_or, length}
use Rattle.std.specs.List.{position, zip}
use Rattle.std.proofs.Math.Option.{Option as StackIfAny, none as nothing}
use Rattle.operators.specs.Sorts.{AllFit}
use Rattle.steps.specs.Stack.{applied, as_values, fits, pushed, step_on}
use Rattle.steps.specs.Steps.{is_extract}
use Rattle.steps.specs.declared.Step.{Step}
use Rattle.terms.specs.Values.{numbers_in, sorts_in, value}
use Rattle.terms.specs.declared.Value.{Value}
use Rattle.runner.specs.code.Stack.{Ready, Stepped}

-- Step k of a list.
abbrev pub step_in : (steps : List ℕ) (k : ℕ) → Step
step_in steps k =
    record { first = get_or steps (4 * k) 0; second = get_or steps (4 * k + 1) 0; third = get_or steps (4 * k + 2) 0; fourth = get_or steps (4 * k + 3) 0 }

-- The first argument that is no value of its sort, if there is one.
abbrev pub bad_argument : (sorts arguments : List ℕ) → Option ℕ
bad_argument sorts arguments = position (λ (a : ℕ × ℕ). not (fits a.0 a.1)) (zip sorts arguments)

-- Arguments that fit their sorts, and a stack.
pub record Prepared (sorts arguments values stackSorts : List ℕ) (top : ℕ) : Type 0 where
  pub fit : AllFit sorts arguments
  pub ready : Ready values stackSorts top

-- What pushing an argument does.
abbrev pub argument_on : (arguments : List Value) → Step → (stack : List Value) → StackIfAny (List Value)
argument_on arguments s stack =
    cond (ltb s.second (length arguments) && eqb s.third 0 && eqb s.fourth 0)
    (pushed stack (value (get_or (sorts_in arguments) s.second 0) (get_or (numbers_in arguments) s.second 0)))
    nothing

-- What pushing a constant does.
abbrev pub constant_on : Step → (stack : List Value) → StackIfAny (List Value)
constant_on s stack = cond (fits s.third s.second && eqb s.fourth 0) (pushed stack (value s.third s.second)) nothing

-- What applying an operator does.
abbrev pub operator_on : Step → (stack : List Value) → StackIfAny (List Value)
operator_on s stack =
    cond (is_extract s.second) (applied s.second s.third s.fourth 1 stack)
    (cond (eqb s.fourth 0) (applied s.second 0 0 s.third stack)
    nothing)

-- What the functions that do so give.
abbrev pub ArgumentStep : (sorts arguments : List ℕ) (s : Step) (values stackSorts : List ℕ) (top : ℕ) (values' stackSorts' : List ℕ) (top' : ℕ) (r : Option (Unit {0})) → Type 0
ArgumentStep sorts arguments s values stackSorts top values' stackSorts' top' r =
    (e : Prepared sorts arguments values stackSorts top) → Stepped values' stackSorts' top' r (argument_on (as_values sorts arguments) s e.ready.stack)

abbrev pub ConstantStep : (s : Step) (values stackSorts : List ℕ) (top : ℕ) (values' stackSorts' : List ℕ) (top' : ℕ) (r : Option (Unit {0})) → Type 0
ConstantStep s values stackSorts top values' stackSorts' top' r = (e : Ready values stackSorts top) → Stepped values' stackSorts' top' r (constant_on s e.stack)

abbrev pub OperatorStep : (s : Step) (values stackSorts : List ℕ) (top : ℕ) (values' stackSorts' : List ℕ) (top' : ℕ) (r : Option (Unit {0})) → Type 0
OperatorStep s values stackSorts top values' stackSorts' top' r = (e : Ready values stackSorts top) → Stepped values' stackSorts' top' r (operator_on s e.stack)

-- What one step gives.
abbrev pub OneStep : (sorts arguments : List ℕ) (s : Step) (values stackSorts : List ℕ) (top : ℕ) (values' stackSorts' : List ℕ) (top' : ℕ) (r : Option (Unit {0})) → Type 0
OneStep sorts arguments s values stackSorts top values' stackSorts' top' r =
    (e : Prepared sorts arguments values stackSorts top)
    → Stepped values' stackSorts' top' r (step_on (as_values sorts arguments) s.first s.second s.third s.fourth e.ready.stack)

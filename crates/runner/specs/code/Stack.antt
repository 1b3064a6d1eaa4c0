-- The runner's stack in two tables, and what the functions on it ask and give.
use Rattle.std.specs.Prelude.{ℕ, ◌≤◌, List, ◌≡◌, None, Option, Some, length, replicate, take}
use Rattle.std.proofs.Math.Option.{Option as StackIfAny, none as nothing, some}
use Rattle.operators.specs.Operators.{operator_sort, operator_value}
use Rattle.operators.specs.Sorts.{AllFit, Fit}
use Rattle.steps.specs.Stack.{applied, most_values, pushed, turned}
use Rattle.terms.specs.Values.{numbers_in, sorts_in, value}
use Rattle.terms.specs.declared.Value.{Value}

-- A table without values.
unfoldable pub no_values : List ℕ
no_values = replicate {A = ℕ} most_values 0

-- Two tables hold the numbers and the sorts of the values of a stack, the oldest first, each a value of its sort.
pub record Held (values sorts : List ℕ) (top : ℕ) (stack : List Value) : Type 0 where
  pub numbers_are : take top values ≡ numbers_in (turned stack)
  pub sorts_are : take top sorts ≡ sorts_in (turned stack)
  pub fit : AllFit (sorts_in (turned stack)) (numbers_in (turned stack))
  pub counted : length stack ≡ top
  pub most : top ≤ most_values
  pub values_long : length values ≡ most_values
  pub sorts_long : length sorts ≡ most_values

-- They hold some stack.
pub record Ready (values sorts : List ℕ) (top : ℕ) : Type 0 where
  pub stack : List Value
  pub held : Held values sorts top stack

-- They hold none.
pub record IsEmpty (values sorts : List ℕ) (top : ℕ) : Type 0 where
  pub no_numbers : values ≡ no_values
  pub no_sorts : sorts ≡ no_values
  pub none : top ≡ 0

-- They hold the stack that a step gives, or the step is refused.
pub data Stepped (values sorts : List ℕ) (top : ℕ) : Option (Unit {0}) → StackIfAny (List Value) → Type 0 where
  not_done : Stepped values sorts top None nothing
  done : {stack : List Value} → Held values sorts top stack → Stepped values sorts top (Some tt) (some stack)

-- A stack, and a value to be put on it.
pub record Pushable (values sorts : List ℕ) (top : ℕ) (v : Value) : Type 0 where
  pub ready : Ready values sorts top
  pub fit : Fit v.sort v.number

-- What pushing gives.
abbrev pub Pushing : (values sorts : List ℕ) (top : ℕ) (values' sorts' : List ℕ) (top' : ℕ) (v : Value) (r : Option (Unit {0})) → Type 0
Pushing values sorts top values' sorts' top' v r = (e : Pushable values sorts top v) → Stepped values' sorts' top' r (pushed e.ready.stack v)

-- Operands of these values and sorts, which an operator takes.
pub record Appliable (operator high low : ℕ) (values sorts : List ℕ) : Type 0 where
  pub fit : AllFit sorts values
  pub result : ℕ
  pub sorted : operator_sort operator high low sorts ≡ some result

-- The value that it gives them.
abbrev pub Given : (operator high low : ℕ) (values sorts : List ℕ) (r : Value) → Type 0
Given operator high low values sorts r =
    (e : Appliable operator high low values sorts) → r ≡ value e.result (operator_value operator high low sorts values)

-- What applying an operator to the newest values gives.
abbrev pub Applying : (operator high low count : ℕ) (values sorts : List ℕ) (top : ℕ) (values' sorts' : List ℕ) (top' : ℕ) (r : Option (Unit {0})) → Type 0
Applying operator high low count values sorts top values' sorts' top' r =
    (e : Ready values sorts top) → Stepped values' sorts' top' r (applied operator high low count e.stack)

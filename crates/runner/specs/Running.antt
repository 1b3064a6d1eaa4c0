-- What the runner gives a caller from C.
use Rattle.std.specs.Prelude.{ℕ, List, ◌≡◌}
use Rattle.steps.specs.Stack.{number_of, place_of, ran, value_of}

-- The answer's number and place, and the value's number and sort, each apart; the latter two are 0 after a refusal.
pub record RanForC (sorts arguments steps : List ℕ) (number place value sort : ℕ) : Type 0 where
  pub number_is : number ≡ number_of (ran sorts arguments steps)
  pub place_is : place ≡ place_of (ran sorts arguments steps)
  pub value_is : value ≡ (value_of (ran sorts arguments steps)).number
  pub sort_is : sort ≡ (value_of (ran sorts arguments steps)).sort

-- What the test of points asks.
use Rattle.std.specs.Prelude.{ℕ, ◌≤◌, ◌<◌, List, ◌≡◌, MatchOption, Option, get_or, length}
use Rattle.operators.specs.Sorts.{max_width}
use Rattle.evaluation.specs.Points.{first_outside}

-- Each of the sorts is `Bool` or a width to 64.
pub record SortsSmall (sorts : List ℕ) : Type 0 where
  pub small : (i : ℕ) → get_or sorts i 0 ≤ max_width

-- The same, and there is a variable where there is a number.
pub record VariableSorts (sorts numbers : List ℕ) : Type 0 where
  pub small : (i : ℕ) → get_or sorts i 0 ≤ max_width
  pub some-variable : 0 < length numbers → 0 < length sorts

-- The first number that is no value of its variable's sort; none where each is one.
abbrev pub FirstOutside : (sorts numbers : List ℕ) → (r : Option ℕ) → Type 0
FirstOutside sorts numbers r =
    MatchOption r (first_outside sorts numbers 0 ≡ length numbers) (λ i. (i < length numbers) × (i ≡ first_outside sorts numbers 0))

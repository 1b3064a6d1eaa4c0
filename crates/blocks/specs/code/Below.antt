-- What a function that reads a number gives.
use Rattle.std.specs.Prelude.{ℕ, ◌<◌, ◌≡◌}

-- r is `number`, which is below `bound`.
pub record Below (number bound r : ℕ) : Type 0 where
  pub is : r ≡ number
  pub low : r < bound

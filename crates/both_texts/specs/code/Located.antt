-- What locating an answer asks.
use Rattle.std.specs.Prelude.{ℕ, ◌<◌, true, List, ◌≡◌, length}
use Rattle.words.specs.Positions.{greatest}
use Rattle.outcome.specs.Located.{carries}
use Rattle.outcome.specs.declared.Outcome.{Outcome}

-- A text whose lines and columns are numbers that a caller can be given.
abbrev pub Short : List ℕ → Type 0
Short text = length text < greatest

-- Where the answer carries a location, both texts are such.
abbrev pub Locatable : (script response : List ℕ) → Outcome → Type 0
Locatable script response o = carries o.number ≡ true → Short script × Short response

-- What is computed of a constant's numeral.
use Rattle.std.specs.Prelude.{ℕ, ◌^◌, ◌<◌, List, Option, SomeIff}
use Rattle.word_kinds.specs.Decimals.{decimal_value}

-- Its value where that fits 64 bits, and none where it does not.
abbrev pub Valued : (name : List ℕ) → (value : Option ℕ) → Type 0
Valued name value = SomeIff value (decimal_value name < 2 ^ 64) (decimal_value name)

-- What the parts of the crate ask and give, where no definition of document 01 says it: definitions that serve a step.
use Rattle.std.specs.Prelude.{ℕ, Bool, true, ◌&&◌, List, [], ◌∷◌, ltb}
use Rattle.word_kinds.specs.Kinds.{digit_value}
use Rattle.word_kinds.specs.declared.Class.{Class}
use Rattle.word_kinds.specs.declared.Class.TheVariants.{HexDigits, BinaryDigits}

-- Whether the `digit_value` of each byte is below the base; this says something only of bytes that are digits.
unfoldable pub digits_below : (base : ℕ) → List ℕ → Bool
digits_below base [] = true
digits_below base (b ∷ w) = ltb (digit_value b) base && digits_below base w

-- The digits of `#x` and of `#b`: their class, how many bits each says, and their base.
pub data Radix : Class → (bits base : ℕ) → Type 0 where
  hex : Radix HexDigits 4 16
  binary : Radix BinaryDigits 1 2

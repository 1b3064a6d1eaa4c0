-- What the functions on words of bits ask.
use Rattle.std.specs.Prelude.{ℕ, ◌+◌, ◌^◌, ◌<◌, ◌≤◌, Bool, cond, not}
use Rattle.operators.specs.Sorts.{max_width}
use Rattle.operators.specs.Values.{negative}

-- Whether the highest bits of a and b, of width n, differ.
abbrev pub signs_differ : (n a b : ℕ) → Bool
signs_differ n a b = cond (negative n a) (not (negative n b)) (negative n b)

-- A width.
pub record Width (n : ℕ) : Type 0 where
  pub least : 1 ≤ n
  pub most : n ≤ max_width

-- A width and a number below 2 ^ n.
pub record Word (n a : ℕ) : Type 0 where
  pub width : Width n
  pub below : a < 2 ^ n

-- A width and two numbers below 2 ^ n.
pub record Words (n a b : ℕ) : Type 0 where
  pub first : Word n a
  pub second : Word n b

-- Two widths that are at most 64 together, and a number of each.
pub record Joined (n m a b : ℕ) : Type 0 where
  pub high : Word n a
  pub low : Word m b
  pub together : Width (n + m)

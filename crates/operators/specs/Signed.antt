-- The whole numbers that bit vectors stand for, at any width n, and by them the exact value of each signed operator: "State each operator's exact signed value
-- for any width from 1 to 64, proved once over the width." (E4) `bvule bvugt bvuge` read their operands without a sign: what they say is their definition.
use Rattle.std.specs.Prelude.{◌≡◌, ℕ, ◌-◌, ◌%◌, ◌^◌, ◌<◌, Bool, true, cond, not, ◌||◌, ℤ, pos, negsuc, ◌+ℤ◌, neg_ℤ, ◌==◌, ◌≢◌, int_div, int_le, int_lt, int_rem, nat_lt, unsigned_abs}
use Rattle.std.proofs.Math.IntN.{sub_ℕ}
use Rattle.std.specs.Int.Signed.{non_neg, shr_z}
use Rattle.operators.specs.Values.{bvashr_value, bvsdiv_value, bvsge_value, bvsgt_value, bvsle_value, bvslt_value, bvsmod_value, bvsrem_value, truth}

-- The whole number that a, of width n, stands for: a below 2 ^ (n - 1), from there on a - 2 ^ n. At width 1 the number 1 stands for -1.
abbrev pub signed : (n a : ℕ) → ℤ
signed n a = cond (nat_lt a (2 ^ (n - 1))) (pos a) (sub_ℕ a (2 ^ n))

-- A whole number modulo 2 ^ n; `negsuc a` is -(a + 1).
abbrev pub wrapped : (n : ℕ) → ℤ → ℕ
wrapped n (pos a) = a % 2 ^ n
wrapped n (negsuc a) = 2 ^ n - 1 - a % 2 ^ n

-- A whole number is one that a vector of width n stands for: from -2 ^ (n - 1) to 2 ^ (n - 1) - 1.
pub record InRange (n : ℕ) (z : ℤ) : Type 0 where
  pub least : int_le (neg_ℤ (pos (2 ^ (n - 1)))) z ≡ true
  pub most : int_lt z (pos (2 ^ (n - 1))) ≡ true

-- Vectors of width n and the whole numbers in range stand for each other, one for one.
pub record Paired (n : ℕ) : Type 0 where
  pub in_range : (a : ℕ) → a < 2 ^ n → InRange n (signed n a)
  pub there_and_back : (a : ℕ) → a < 2 ^ n → wrapped n (signed n a) ≡ a
  pub below : (z : ℤ) → wrapped n z < 2 ^ n
  pub back_and_there : (z : ℤ) → InRange n z → signed n (wrapped n z) ≡ z

-- Neither or both of two whole numbers are below 0.
abbrev pub same_sign : ℤ → ℤ → Bool
same_sign (pos a) d = non_neg d
same_sign (negsuc a) d = not (non_neg d)

-- The remainder of z by d that is 0 or has d's sign: `int_rem`, which has z's, and d added to it where the signs differ.
abbrev pub mod_z : (z d : ℤ) → ℤ
mod_z z d =
    let r = int_rem z d in
    cond (unsigned_abs r == 0 || same_sign r d) r (r +ℤ d)

-- v is the vector of width n that stands for z.
pub record StandsFor (n v : ℕ) (z : ℤ) : Type 0 where
  pub below : v < 2 ^ n
  pub stands : signed n v ≡ z

-- What the signed operators give of a and b, of width n. `int_div` rounds to zero, `int_rem` is 0 or has the dividend's sign, `shr_z` rounds down.
pub record Stated (n a b : ℕ) : Type 0 where
  -- the quotient, modulo 2 ^ n
  pub quotient : (b ≢ 0) → bvsdiv_value n a b ≡ wrapped n (int_div (signed n a) (signed n b))
  -- it is exact but for the least number by -1, which gives the least number
  pub exact_quotient : (b ≢ 0) → (a ≡ 2 ^ (n - 1) → b ≢ 2 ^ n - 1) → StandsFor n (bvsdiv_value n a b) (int_div (signed n a) (signed n b))
  pub overflow : a ≡ 2 ^ (n - 1) → b ≡ 2 ^ n - 1 → bvsdiv_value n a b ≡ a
  -- by 0: 1 of a negative dividend, -1 of another, modulo 2 ^ n; at width 1 these are the same
  pub by_zero : b ≡ 0 → bvsdiv_value n a b ≡ wrapped n (cond (int_lt (signed n a) (pos 0)) (pos 1) (negsuc 0))
  -- the remainder, with the dividend's sign; by 0 the dividend
  pub remainder : (b ≢ 0) → StandsFor n (bvsrem_value n a b) (int_rem (signed n a) (signed n b))
  pub remainder_by_zero : b ≡ 0 → bvsrem_value n a b ≡ a
  -- the modulus, with the divisor's sign; by 0 the dividend
  pub modulus : (b ≢ 0) → StandsFor n (bvsmod_value n a b) (mod_z (signed n a) (signed n b))
  pub modulus_by_zero : b ≡ 0 → bvsmod_value n a b ≡ a
  -- shifted down by any amount
  pub shifted : StandsFor n (bvashr_value n a b) (shr_z (signed n a) (2 ^ b))
  -- the orders
  pub less : bvslt_value n a b ≡ truth (int_lt (signed n a) (signed n b))
  pub at_most : bvsle_value n a b ≡ truth (int_le (signed n a) (signed n b))
  pub greater : bvsgt_value n a b ≡ truth (int_lt (signed n b) (signed n a))
  pub at_least : bvsge_value n a b ≡ truth (int_le (signed n b) (signed n a))

-- What an operator on vectors gives stays below 2 ^ n, at any width n; of signed operators, what theirs is made of.
use Rattle.std.proofs.Common.{ℕ, ◌+◌, ◌%◌, ◌^◌, ◌<◌, Bool, true, false, cond, eqb, ltb, lt_of_le_of_lt, mod-lt, div-le_self, lit<, pow_pos, pow-add}
use native.Mathlib.Nat.{mod-le}
use mathlib.Core.Path.{subst⁻¹}
use lib.Arith.{digits_lt}
use lib.Bits.{and_lt, or_lt, xor_lt}
use lib.Pow.{ones_lt, ones_sub-lt, shr_le}
use Rattle.operators.specs.code.Vectors.{Joined, Word, Words}
use Rattle.operators.specs.Values.{bvand_value, bvlshr_value, bvneg_value, bvnot_value, bvor_value, bvshl_value, bvudiv_value, bvurem_value, bvxor_value}
use Rattle.operators.specs.Values.{by_signs, concat_value, magnitude, negative, truth}

-- Of two numbers below a bound either is below it.
pub pick_below : (t : Bool) {x y m : ℕ} → x < m → y < m → cond t x y < m
pick_below true h g = h
pick_below false h g = g

-- The number of a truth value is below 2.
pub truth_below : (b : Bool) → truth b < 2
truth_below b = pick_below b (lit< tt) (lit< tt)

-- A remainder by 2 ^ n: `bvneg bvadd bvsub bvmul extract`.
pub mod_below : (n v : ℕ) → v % 2 ^ n < 2 ^ n
mod_below n v = mod-lt v (pow_pos n)

-- `bvnot`
pub bvnot_below : (n a : ℕ) → bvnot_value n a < 2 ^ n
bvnot_below n a = ones_sub-lt n a

-- The operators on two words of one width.
module _ {n a b : ℕ} (w : Words n a b) where
  pub bvand_below : bvand_value a b < 2 ^ n
  bvand_below = and_lt n a b w.first.below w.second.below

  pub bvor_below : bvor_value a b < 2 ^ n
  bvor_below = or_lt n a b w.first.below w.second.below

  pub bvxor_below : bvxor_value a b < 2 ^ n
  bvxor_below = xor_lt n a b w.first.below w.second.below

  pub bvudiv_below : bvudiv_value n a b < 2 ^ n
  bvudiv_below = pick_below (eqb b 0) (ones_lt n) (lt_of_le_of_lt (div-le_self a b) w.first.below)

  pub bvurem_below : bvurem_value a b < 2 ^ n
  bvurem_below = pick_below (eqb b 0) w.first.below (lt_of_le_of_lt (mod-le a b) w.first.below)

-- `bvshl`
pub bvshl_below : (n a b : ℕ) → bvshl_value n a b < 2 ^ n
bvshl_below n a b = pick_below (ltb b n) (mod_below n _) (pow_pos n)

-- `bvlshr`
pub bvlshr_below : (n b : ℕ) {a : ℕ} → a < 2 ^ n → bvlshr_value n a b < 2 ^ n
bvlshr_below n b {a} h = pick_below (ltb b n) (lt_of_le_of_lt (shr_le a b) h) (pow_pos n)

-- `concat`, whose width is that of both operands together.
pub concat_below : {n m a b : ℕ} → Joined n m a b → concat_value m a b < 2 ^ (n + m)
concat_below {n} {m} {a} {b} w = subst⁻¹ (λ (p : ℕ). concat_value m a b < p) (pow-add 2 n m) (digits_lt w.high.below w.low.below)

-- Of four numbers below a bound the one that the highest bits choose is below it.
pub by_signs_below : (n a b : ℕ) {neither first second both m : ℕ} → neither < m → first < m → second < m → both < m
    → by_signs n a b neither first second both < m
by_signs_below n a b hn hf hs hb = pick_below (negative n a) (pick_below (negative n b) hb hf) (pick_below (negative n b) hs hn)

-- The signed orders, whose value without signs is a truth value.
pub signs_below : (n a b : ℕ) (t : Bool) → by_signs n a b (truth t) 1 0 (truth t) < 2
signs_below n a b t = by_signs_below n a b (truth_below t) (lit< tt) (lit< tt) (truth_below t)

-- `bvneg` of a word is a word.
pub negated : {n a : ℕ} → Word n a → Word n (bvneg_value n a)
negated {n} w = record { width = w.width; below = mod_below n _ }

-- The magnitude of a word is a word.
pub magnitude_word : {n a : ℕ} → Word n a → Word n (magnitude n a)
magnitude_word {n} {a} w = record { width = w.width; below = pick_below (negative n a) (mod_below n _) w.below }

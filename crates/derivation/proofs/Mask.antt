-- Masks as sets: the digit at a place of an or, and of a power of two.
use mathlib.Core.Bool.{false}
use mathlib.Core.Path.{◌≡◌, ap, ◌∙◌, subst}
use Prim.Native.Nat.{ℕ, suc, ◌+◌, ◌-◌, ◌/◌, ◌%◌, ◌^◌, ◌<◌, max}
use native.Mathlib.Decide.{dec_lt}
use native.Mathlib.Nat.{mod-lt, div_self, div-eq_of_lt, mul-div_cancel, pow-suc, mul-mod_left, zero-div}
use native.Mathlib.Omega.{arith}
use lib.Dec.{eqb}
use lib.Bits.{bit_or, or_step, or_shr}
use lib.Pow.{pow_pos, pow-lt, pow-add}
use borrow.Author.Tests.{eq-eqb}
use Rattle.derivation.specs.code.Masks.{has, Puts}

or_odd : (x y : ℕ) → bit_or x y % 2 ≡ max (x % 2) (y % 2)
or_odd x y = omega (arith, or_step x y)

pub digit_or : (x y b : ℕ) → bit_or x y / 2 ^ b % 2 ≡ max (x / 2 ^ b % 2) (y / 2 ^ b % 2)
digit_or x y b = rw or_shr (or_odd (x / 2 ^ b) (y / 2 ^ b))

pub digit_same : (a : ℕ) → 2 ^ a / 2 ^ a % 2 ≡ 1
digit_same a = ap (λ (x : ℕ). x % 2) (div_self (pow_pos a))

above : (k b : ℕ) → 2 ^ (suc k + b) / 2 ^ b % 2 ≡ 0
above k b = rw (pow-add 2 (suc k) b, mul-div_cancel (2 ^ suc k) (pow_pos b), pow-suc 2 k) (mul-mod_left (2 ^ k) 2)

pub digit_other : (a b : ℕ) → (b ≡ a → ⊥) → 2 ^ a / 2 ^ b % 2 ≡ 0
digit_other a b ne = go (dec_lt a b)
  where
    go : Dec (a < b) → 2 ^ a / 2 ^ b % 2 ≡ 0
    go (yes l) = rw (div-eq_of_lt (pow-lt l))
    go (no l) = let e : suc (a - b - 1) + b ≡ a = omega arith in subst (λ (x : ℕ). 2 ^ x / 2 ^ b % 2 ≡ 0) e (above (a - b - 1) b)

pub puts : (m a : ℕ) → Puts m a (bit_or m (2 ^ a))
unfolding has
puts m a = record {
  on = eq-eqb (bit_or m (2 ^ a) / 2 ^ a % 2) 1 (digit_or m (2 ^ a) a ∙ omega (arith, digit_same a, mod-lt (m / 2 ^ a) (pow_pos 1)));
  off = λ b ne.
      let e : bit_or m (2 ^ a) / 2 ^ b % 2 ≡ m / 2 ^ b % 2 = digit_or m (2 ^ a) b ∙ omega (arith, digit_other a b ne) in
      ap (λ (x : ℕ). eqb x 1) e;
}

pub has_zero : (A : ℕ) → has 0 A ≡ false
unfolding has
has_zero A = ap (λ (x : ℕ). eqb (x % 2) 1) (zero-div (2 ^ A))

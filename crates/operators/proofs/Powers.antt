-- Laws of numbers modulo a power of two, at any width.
use Rattle.std.proofs.Common.{◌≡◌, ℕ, ◌+◌, ◌-◌, ◌*◌, ◌/◌, ◌%◌, ◌^◌, sym, ap, ◌∙◌, arith, shl_exact}
use native.Mathlib.Nat.{mod_self}
use lib.Bits.{bit_and, bit_or, and_mask, or_shifted}
use lib.Pow.{high, mod-mod-pow, ones_lt, ones_split}
use Rattle.operators.specs.code.Vectors.{Joined, Width}
use Rattle.operators.specs.Values.{bvneg_value, concat_value}

-- The largest number shifted down by 64 - n leaves n ones.
pub ones_law : {n : ℕ} → Width n → (2 ^ 64 - 1) / 2 ^ (64 - n) ≡ 2 ^ n - 1
ones_law {n} h =
    let e : 64 ≡ n + (64 - n) = omega arith in
    ap (λ (x : ℕ). (2 ^ x - 1) / 2 ^ (64 - n)) e
    ∙ ap (λ (x : ℕ). x / 2 ^ (64 - n)) (ones_split n (64 - n))
    ∙ high (2 ^ n - 1) (64 - n) (ones_lt (64 - n))

-- The bits under n ones are the remainder by 2 ^ n.
pub masked : (x n : ℕ) {m : ℕ} → m ≡ 2 ^ n - 1 → bit_and x m ≡ x % 2 ^ n
masked x n e = ap (bit_and x) e ∙ and_mask x n

-- A number cut to 64 bits and then to n is cut to n.
pub cut_again : (x : ℕ) {y r n : ℕ} → Width n → y ≡ x % 2 ^ 64 → r ≡ y % 2 ^ n → r ≡ x % 2 ^ n
cut_again x {n = n} h e q =
    let l : 64 ≡ (64 - n) + n = omega arith in
    q ∙ ap (λ (y : ℕ). y % 2 ^ n) e ∙ ap (λ (k : ℕ). x % 2 ^ k % 2 ^ n) l ∙ mod-mod-pow x (64 - n) n

-- `bvneg` of 0 is 0.
pub neg_zero : (n : ℕ) {a : ℕ} → a ≡ 0 → 0 ≡ bvneg_value n a
neg_zero n {a} h =
    let e : 2 ^ n - a ≡ 2 ^ n = omega arith in
    sym (ap (λ (x : ℕ). x % 2 ^ n) e ∙ mod_self (2 ^ n))

-- A number shifted up, with another in the bits below it, is `concat`.
pub joined : {n m a b : ℕ} → Joined n m a b → bit_or (a * 2 ^ m % 2 ^ 64) b ≡ concat_value m a b
joined {n} {m} {a} {b} h =
    ap (λ (x : ℕ). bit_or x b) (shl_exact n m 64 h.high.below h.together.most) ∙ or_shifted a m b h.low.below

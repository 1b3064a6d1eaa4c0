-- The exact value of each signed operator, at any width n.
use Rattle.std.proofs.Common.{◌≡◌, ℕ, zero, suc, ◌+◌, ◌-◌, ◌/◌, ◌%◌, ◌^◌, ◌<◌, ◌≤◌, Bool, true, false, cond, not, ◌||◌, eqb, ltb, leb, ℤ, pos, negsuc, ◌+ℤ◌, neg_ℤ, nat_abs, sym, refl, ap, ◌∙◌, ap₂, lt_of_lt_of_le, lt_of_le_of_lt, add-zero, mod-lt, mod-eq_of_lt, div-le_self, div-one, arith, pow_mono, ltb-false, le-ltb, lt-ltb, ne_eqb, le-leb, leb-false, leb-true}
use native.Mathlib.Nat.{add-mod_right, div-eq_of_lt, div-eq_of_lt-le, div-lt_self, mod-add-mod}
use native.Mathlib.Nat.{mod-le, sub_self}
use borrow.Author.Tests.{lt-leb}
use lib.Arith.{lt_of_le-ne}
use lib.Dec.{eqb-suc-zero, leb-suc-suc}
use lib.Signed.{le_z, lt_z, mag, mag_rem, mag_shr, non_neg, quot_z, rem_z, shr_z}
use Rattle.operators.specs.Signed.{Paired, Stated, mod_z, same_sign, signed, wrapped}
use Rattle.operators.specs.Values.{bvadd_value, bvashr_value, bvlshr_value, bvneg_value, bvnot_value, bvsdiv_value, bvsle_value, bvslt_value, bvsmod_value}
use Rattle.operators.specs.Values.{bvsrem_value, by_signs, extract_value, holds, magnitude, negative, truth}
use Rattle.operators.proofs.Powers.{neg_zero}
use Rattle.operators.proofs.Wholes.{Halves, Stands, halves, near, pairs, read_again, standing, stands, writes}
use Rattle.operators.proofs.Wholes.Stands.{itself, below}

-- Numbers counted down from m are in the other order.
reversed : {m x y : ℕ} → x ≤ m → y ≤ m → leb (m - x) (m - y) ≡ leb y x
reversed {m} {x} {y} h g = go (leb y x) refl
  where
    go : (t : Bool) → leb y x ≡ t → leb (m - x) (m - y) ≡ t
    go true e = let l = leb-true y x e in le-leb (m - x) (m - y) (omega arith)
    go false e = let l = leb-false y x e in lt-leb (m - x) (m - y) (omega arith)

-- `bvlshr` divides, whatever the amount.
lowered : (n b : ℕ) {x : ℕ} → x < 2 ^ n → bvlshr_value n x b ≡ x / 2 ^ b
lowered n b {x} h = go (ltb b n) refl
  where
    go : (t : Bool) → ltb b n ≡ t → bvlshr_value n x b ≡ x / 2 ^ b
    go true e = rw e
    go false e = rw e (sym (div-eq_of_lt (lt_of_lt_of_le h (pow_mono (ltb-false b n e)))))

-- What `mod_z` makes of the remainder r by d.
abbrev with_sign : (r d : ℤ) → ℤ
with_sign r d = cond (eqb (nat_abs r) 0 || same_sign r d) r (r +ℤ d)

module _ {n : ℕ} (w : Halves n) where
  -- `negative` is the sign.
  sign : {a : ℕ} {z : ℤ} → Stands n a z → negative n a ≡ not (non_neg z)
  sign (itself {a} h) = lt-leb (2 ^ (n - 1)) a h
  sign (below {k} h) = le-leb (2 ^ (n - 1)) (2 ^ n - suc k) (omega arith)

  -- `negative` is the highest bit.
  high_bit : {a : ℕ} {z : ℤ} → Stands n a z → negative n a ≡ holds (extract_value (n - 1) (n - 1) a)
  high_bit (itself h) = rw (sign (itself h), sub_self (n - 1), div-eq_of_lt h)
  high_bit (below {k} h) =
      rw (sign (below h), sub_self (n - 1), div-eq_of_lt-le {k = 1} (2 ^ (n - 1)) {m = 2 ^ n - suc k} (omega arith) (omega arith))

  -- `bvneg` of a number that is not 0.
  negated : {m : ℕ} → 1 ≤ m → bvneg_value n m ≡ 2 ^ n - m
  negated h = mod-eq_of_lt (omega arith)

  -- `bvneg` of what stands for a number below 0.
  turned : {k : ℕ} → k < 2 ^ (n - 1) → bvneg_value n (2 ^ n - suc k) ≡ suc k
  turned h = negated (omega arith) ∙ omega arith

  -- `bvneg` gives the negation, modulo 2 ^ n.
  opposite : (m : ℕ) → m ≤ 2 ^ n → bvneg_value n m ≡ wrapped n (neg_ℤ (pos m))
  opposite zero h = sym (neg_zero n refl) ∙ sym (mod-eq_of_lt (omega arith))
  opposite (suc k) h = negated (omega arith) ∙ omega arith ∙ ap (λ (r : ℕ). 2 ^ n - 1 - r) (sym (mod-eq_of_lt h))

  -- `magnitude` is the whole number without its sign.
  size : {a : ℕ} {z : ℤ} → Stands n a z → magnitude n a ≡ nat_abs z
  size (itself h) = rw (sign (itself h))
  size (below h) = rw (sign (below h)) (turned h)

  -- Only 0 stands for 0.
  nonzero : {a : ℕ} {z : ℤ} → Stands n a z → (a ≡ 0 → ⊥) → nat_abs z ≡ 0 → ⊥
  nonzero (itself h) e q = e q
  nonzero (below h) e q = omega arith

  -- `bvsdiv` gives the quotient, modulo 2 ^ n.
  quotient : {a b : ℕ} {z d : ℤ} → Stands n a z → Stands n b d → (b ≡ 0 → ⊥) → bvsdiv_value n a b ≡ wrapped n (quot_z z d)
  quotient (itself {a} h) (itself {a = b} g) e =
      rw (sign (itself h), sign (itself g), ne_eqb b 0 e) (sym (mod-eq_of_lt (omega (arith, div-le_self a b))))
  quotient (itself {a} h) (below {k = l} g) e =
      rw (sign (itself h), sign (below g), turned g, eqb-suc-zero l) (opposite (a / suc l) (omega (arith, div-le_self a (suc l))))
  quotient (below {k} h) (itself {a = b} g) e =
      rw (sign (below h), sign (itself g), turned h, ne_eqb b 0 e) (opposite (suc k / b) (omega (arith, div-le_self (suc k) b)))
  quotient (below {k} h) (below {k = l} g) e =
      rw (sign (below h), sign (below g), turned h, turned g, eqb-suc-zero l) (sym (mod-eq_of_lt (omega (arith, div-le_self (suc k) (suc l)))))

  -- The negation of a number up to the half is near to 0.
  negation_near : (m : ℕ) → m ≤ 2 ^ (n - 1) → mag (neg_ℤ (pos m)) < 2 ^ (n - 1)
  negation_near zero h = w.some
  negation_near (suc k) h = h

  -- The quotient is near to 0, but for that of the least number by -1.
  quotient_near : {a b : ℕ} {z d : ℤ} → Stands n a z → Stands n b d → (a ≡ 2 ^ (n - 1) → b ≡ 2 ^ n - 1 → ⊥) → mag (quot_z z d) < 2 ^ (n - 1)
  quotient_near (itself {a} h) (itself {a = b} g) e = omega (arith, div-le_self a b)
  quotient_near (itself {a} h) (below {k = l} g) e = negation_near (a / suc l) (omega (arith, div-le_self a (suc l)))
  quotient_near (below {k} h) (itself {a = b} g) e = negation_near (suc k / b) (omega (arith, div-le_self (suc k) b))
  quotient_near (below {k} h) (below {k = zero} g) e = rw (div-one (suc k)) (lt_of_le-ne h (λ q. e (omega arith) refl))
  quotient_near (below {k} h) (below {k = suc l} g) e = omega (arith, div-lt_self {n = suc k} {k = suc (suc l)} (omega arith) (omega arith))

  -- The least number by -1.
  overflow : bvsdiv_value n (2 ^ (n - 1)) (2 ^ n - 1) ≡ 2 ^ (n - 1)
  overflow =
      let e : suc (2 ^ (n - 1) - 1) ≡ 2 ^ (n - 1) = omega arith in
      let q : 2 ^ (n - 1) ≡ 2 ^ n - suc (2 ^ (n - 1) - 1) = omega arith in
      ap (λ (a : ℕ). bvsdiv_value n a (2 ^ n - 1)) q
      ∙ quotient (below {k = 2 ^ (n - 1) - 1} (omega arith)) (below {k = 0} w.some) (λ (z : 2 ^ n - 1 ≡ 0). omega arith)
      ∙ rw (div-one (suc (2 ^ (n - 1) - 1)), e) (mod-eq_of_lt (omega arith))

  -- `bvsrem` gives the remainder with the dividend's sign, modulo 2 ^ n.
  remainder : {a b : ℕ} {z d : ℤ} → Stands n a z → Stands n b d → (b ≡ 0 → ⊥) → bvsrem_value n a b ≡ wrapped n (rem_z z d)
  remainder (itself {a} h) (itself {a = b} g) e =
      rw (sign (itself h), sign (itself g), ne_eqb b 0 e) (sym (mod-eq_of_lt (omega (arith, mod-le a b))))
  remainder (itself {a} h) (below {k = l} g) e =
      rw (sign (itself h), sign (below g), turned g, eqb-suc-zero l) (sym (mod-eq_of_lt (omega (arith, mod-le a (suc l)))))
  remainder (below {k} h) (itself {a = b} g) e =
      rw (sign (below h), sign (itself g), turned h, ne_eqb b 0 e) (opposite (suc k % b) (omega (arith, mod-le (suc k) b)))
  remainder (below {k} h) (below {k = l} g) e =
      rw (sign (below h), sign (below g), turned h, turned g, eqb-suc-zero l) (opposite (suc k % suc l) (omega (arith, mod-le (suc k) (suc l))))

  -- 0 stands for 0.
  naught : Stands n 0 (pos 0)
  naught = itself w.some

  -- What `bvsmod` makes of the magnitudes' remainder stands for what `mod_z` makes of the whole numbers'.
  adjusted : {a b : ℕ} {z d : ℤ} → Stands n a z → Stands n b d → (u : ℕ) → u < nat_abs d
      → Stands n (cond (eqb u 0) u (by_signs n a b u (bvadd_value n (bvneg_value n u) b) (bvadd_value n u b) (bvneg_value n u)))
      (with_sign (cond (non_neg z) (pos u) (neg_ℤ (pos u))) d)
  adjusted (itself h) t zero l = naught
  adjusted (below h) t zero l = naught
  adjusted (itself h) (itself g) (suc v) l = rw (eqb-suc-zero v, sign (itself h), sign (itself g)) (itself {a = suc v} (omega arith))
  adjusted (itself h) (below {k} g) (suc v) l =
      let e : (suc v + (2 ^ n - suc k)) % 2 ^ n ≡ 2 ^ n - suc (suc k - suc (suc v)) = mod-eq_of_lt (omega arith) ∙ omega arith in
      rw (eqb-suc-zero v, sign (itself h), sign (below g), lt-ltb (suc v) (suc k) l, e) (below {k = suc k - suc (suc v)} (omega arith))
  adjusted (below h) (itself {a = b} g) (suc v) l =
      let e : 2 ^ n - suc v + b ≡ b - suc v + 2 ^ n = omega arith in
      let q = mod-add-mod (2 ^ n - suc v) (2 ^ n) b ∙ ap (λ (x : ℕ). x % 2 ^ n) e ∙ add-mod_right (b - suc v) (2 ^ n) ∙ mod-eq_of_lt (omega arith) in
      rw (eqb-suc-zero v, sign (below h), sign (itself g), le-ltb b (suc v) (omega arith), q) (itself {a = b - suc v} (omega arith))
  adjusted (below h) (below g) (suc v) l =
      rw (eqb-suc-zero v, sign (below h), sign (below g), negated {m = suc v} (omega arith)) (below {k = v} (omega arith))

  -- `bvsmod` stands for the remainder with the divisor's sign.
  modulus : {a b : ℕ} {z d : ℤ} → Stands n a z → Stands n b d → (b ≡ 0 → ⊥) → Stands n (bvsmod_value n a b) (mod_z z d)
  modulus {d} (itself {a} h) t e =
      let f = nonzero t e in
      rw (size (itself h), size t, ne_eqb (nat_abs d) 0 f) (adjusted (itself h) t (a % nat_abs d) (mod-lt a (omega (arith, f))))
  modulus {d} (below {k} h) t e =
      let f = nonzero t e in
      rw (size (below h), size t, ne_eqb (nat_abs d) 0 f) (adjusted (below h) t (suc k % nat_abs d) (mod-lt (suc k) (omega (arith, f))))

  -- `bvsdiv` by 0.
  quotient_by_zero : {a : ℕ} {z : ℤ} → Stands n a z → bvsdiv_value n a 0 ≡ wrapped n (cond (lt_z z (pos 0)) (pos 1) (negsuc 0))
  quotient_by_zero (itself {a} h) = rw (sign (itself h), sign naught, le-ltb a 0 (omega arith)) (sym (writes w (below {k = 0} w.some)))
  quotient_by_zero (below h) = rw (sign (below h), sign naught) (ap (λ (x : ℕ). x % 2 ^ n) (omega arith))

  -- `bvsrem` by 0.
  remainder_by_zero : {a : ℕ} {z : ℤ} → Stands n a z → bvsrem_value n a 0 ≡ a
  remainder_by_zero (itself h) = rw (sign (itself h), sign naught)
  remainder_by_zero (below h) = rw (sign (below h), sign naught, turned h) (negated (omega arith))

  -- `bvsmod` by 0.
  modulus_by_zero : {a : ℕ} {z : ℤ} → Stands n a z → bvsmod_value n a 0 ≡ a
  modulus_by_zero (itself {a = zero} h) = rw (sign (itself h))
  modulus_by_zero (itself {a = suc v} h) = rw (sign (itself h), sign naught, eqb-suc-zero v)
  modulus_by_zero (below {k} h) =
      rw (sign (below h), sign naught, turned h, eqb-suc-zero k, negated {m = suc k} (omega arith), add-zero) (negated {m = suc k} (omega arith))

  -- `bvashr` gives the whole number shifted down, modulo 2 ^ n.
  shifted : {a : ℕ} {z : ℤ} (b : ℕ) → Stands n a z → bvashr_value n a b ≡ wrapped n (shr_z z (2 ^ b))
  shifted b (itself {a} h) = rw (sign (itself h)) (lowered n b (omega arith) ∙ sym (mod-eq_of_lt (omega (arith, div-le_self a (2 ^ b)))))
  shifted b (below {k} h) =
      let e : bvnot_value n (2 ^ n - suc k) ≡ k = omega arith in
      let q : k / 2 ^ b ≡ k / 2 ^ b % 2 ^ n = sym (mod-eq_of_lt (omega (arith, div-le_self k (2 ^ b)))) in
      rw (sign (below h), e, lowered n b {x = k} (omega arith)) (ap (λ (r : ℕ). 2 ^ n - 1 - r) q)

  -- `bvslt` is the order of the whole numbers.
  less : {a b : ℕ} {z d : ℤ} → Stands n a z → Stands n b d → bvslt_value n a b ≡ truth (lt_z z d)
  less (itself h) (itself g) = rw (sign (itself h), sign (itself g))
  less (itself h) (below g) = rw (sign (itself h), sign (below g))
  less (below h) (itself g) = rw (sign (below h), sign (itself g))
  less (below {k} h) (below {k = l} g) =
      let e : suc (2 ^ n - suc k) ≡ 2 ^ n - k = omega arith in
      rw (sign (below h), sign (below g), e, reversed {m = 2 ^ n} {x = k} {y = suc l} (omega arith) (omega arith))

  -- `bvsle` is the order of the whole numbers, or that they are the same.
  at_most : {a b : ℕ} {z d : ℤ} → Stands n a z → Stands n b d → bvsle_value n a b ≡ truth (le_z z d)
  at_most (itself h) (itself g) = rw (sign (itself h), sign (itself g))
  at_most (itself h) (below g) = rw (sign (itself h), sign (below g))
  at_most (below h) (itself g) = rw (sign (below h), sign (itself g))
  at_most (below {k} h) (below {k = l} g) =
      rw (sign (below h), sign (below g), reversed {m = 2 ^ n} {x = suc k} {y = suc l} (omega arith) (omega arith), leb-suc-suc l k)

  -- What the signed operators give of two vectors.
  states : {a b : ℕ} → a < 2 ^ n → b < 2 ^ n → Stated n a b
  states {a} {b} h g =
      let s = stands w h in
      let t = stands w g in
      record {
        quotient = quotient s t;
        exact_quotient = λ e o. read_again w (quotient s t e) (quotient_near s t o);
        overflow = λ p q. ap₂ (bvsdiv_value n) p q ∙ overflow ∙ sym p;
        by_zero = λ q. ap (bvsdiv_value n a) q ∙ quotient_by_zero s;
        remainder = λ e. read_again w (remainder s t e) (lt_of_le_of_lt (mag_rem (signed n a) (signed n b)) (near s));
        remainder_by_zero = λ q. ap (bvsrem_value n a) q ∙ remainder_by_zero s;
        modulus = λ e. standing w (modulus s t e);
        modulus_by_zero = λ q. ap (bvsmod_value n a) q ∙ modulus_by_zero s;
        shifted = read_again w (shifted b s) (lt_of_le_of_lt (mag_shr (signed n a) (2 ^ b)) (near s));
        less = less s t;
        at_most = at_most s t;
        greater = less t s;
        at_least = at_most t s;
      }

-- Vectors and the whole numbers in range stand for each other, at any width.
pub paired : (n : ℕ) → 1 ≤ n → Paired n
paired n h = pairs (halves h)

-- What the signed operators give of two vectors, at any width.
pub stated : {n a b : ℕ} → 1 ≤ n → a < 2 ^ n → b < 2 ^ n → Stated n a b
stated h = states (halves h)

-- `negative` is SMT-LIB's test of the highest bit, at any width.
pub highest_bit : {n a : ℕ} → 1 ≤ n → a < 2 ^ n → negative n a ≡ holds (extract_value (n - 1) (n - 1) a)
highest_bit h l = let w = halves h in high_bit w (stands w l)

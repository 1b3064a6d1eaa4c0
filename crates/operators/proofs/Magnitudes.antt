-- The signed operators by the magnitudes of their operands and their signs, as the code computes them.
use Rattle.std.proofs.Common.{◌≡◌, ℕ, ◌-◌, ◌^◌, ◌<◌, Bool, true, false, cond, not, ◌&&◌, eqb, sym, refl, ap, ◌∙◌, mod-eq_of_lt, arith, eq-eqb, ne_eqb, eqb-true}
use borrow.Author.Tests.{eqb-false}
use Rattle.operators.specs.code.Vectors.{Word, Words, signs_differ}
use Rattle.operators.specs.Values.{bvadd_value, bvneg_value, bvsmod_value, bvsrem_value, bvurem_value}
use Rattle.operators.specs.Values.{magnitude, negative}
use Rattle.operators.proofs.Below.{bvurem_below, magnitude_word}
use Rattle.operators.proofs.Powers.{neg_zero}

module _ {n a b : ℕ} (w : Words n a b) {x y : ℕ} (ex : x ≡ magnitude n a) (ey : y ≡ magnitude n b) where
  magnitudes : Words n x y
  magnitudes = rw (ex, ey) (record { first = magnitude_word w.first; second = magnitude_word w.second })

  -- The remainder of magnitudes is a word of the width.
  pub rest_word : {q : ℕ} → q ≡ bvurem_value x y → Word n q
  rest_word e = rw e (record { width = w.first.width; below = bvurem_below magnitudes })

-- `bvsrem` is the remainder of the magnitudes, negated where the dividend is negative.
by_rest : (n a b : ℕ)
    → bvsrem_value n a b ≡ cond (negative n a) (bvneg_value n (bvurem_value (magnitude n a) (magnitude n b))) (bvurem_value (magnitude n a) (magnitude n b))
by_rest n a b = go (negative n a) refl (negative n b) refl
  where
    go : (p : Bool) → negative n a ≡ p → (q : Bool) → negative n b ≡ q
        → bvsrem_value n a b ≡ cond (negative n a) (bvneg_value n (bvurem_value (magnitude n a) (magnitude n b))) (bvurem_value (magnitude n a) (magnitude n b))
    go true ep true eq = rw (ep, eq) refl
    go true ep false eq = rw (ep, eq) refl
    go false ep true eq = rw (ep, eq) refl
    go false ep false eq = rw (ep, eq) refl

-- `bvneg` of a word is 0 exactly where the word is.
neg_zero_test : (n : ℕ) {u : ℕ} → u < 2 ^ n → eqb (bvneg_value n u) 0 ≡ eqb u 0
neg_zero_test n {u} l = go (eqb u 0) refl
  where
    go : (z : Bool) → eqb u 0 ≡ z → eqb (bvneg_value n u) 0 ≡ z
    go true e = eq-eqb _ 0 (sym (neg_zero n (eqb-true u 0 e)))
    go false e =
        let some : u ≡ 0 → ⊥ = eqb-false u 0 e in
        let smaller : 2 ^ n - u < 2 ^ n = omega (arith, some) in
        ne_eqb _ 0 (λ z. omega (arith, sym (mod-eq_of_lt smaller) ∙ z))

-- What `bvsmod` makes of the remainder u of the magnitudes, where p and q say whether the operands are negative.
by-signs : (n b : ℕ) {u : ℕ} → u < 2 ^ n → (p q : Bool)
    → cond (eqb u 0) u (cond p (cond q (bvneg_value n u) (bvadd_value n (bvneg_value n u) b)) (cond q (bvadd_value n u b) u))
    ≡ cond (not (eqb (cond p (bvneg_value n u) u) 0) && cond p (not q) q) (bvadd_value n (cond p (bvneg_value n u) u) b) (cond p (bvneg_value n u) u)
by-signs n b {u} l true q = rw (neg_zero_test n l) (go (eqb u 0) refl q)
  where
    go : (z : Bool) → eqb u 0 ≡ z → (q : Bool)
        → cond z u (cond q (bvneg_value n u) (bvadd_value n (bvneg_value n u) b)) ≡ cond (not z && not q) (bvadd_value n (bvneg_value n u) b) (bvneg_value n u)
    go true e q = let z = eqb-true u 0 e in z ∙ neg_zero n z
    go false e true = refl
    go false e false = refl
by-signs n b {u} l false q = go (eqb u 0) q
  where
    go : (z q : Bool) → cond z u (cond q (bvadd_value n u b) u) ≡ cond (not z && q) (bvadd_value n u b) u
    go true q = refl
    go false true = refl
    go false false = refl

-- `bvsmod` is `bvsrem`, with the divisor added where it is not 0 and the signs differ.
by_modulus : {n a b : ℕ} → Words n a b
    → bvsmod_value n a b ≡ cond (not (eqb (bvsrem_value n a b) 0) && signs_differ n a b) (bvadd_value n (bvsrem_value n a b) b) (bvsrem_value n a b)
by_modulus {n} {a} {b} w =
    by-signs n b (rest_word w refl refl refl).below (negative n a) (negative n b)
    ∙ ap (λ (r : ℕ). cond (not (eqb r 0) && signs_differ n a b) (bvadd_value n r b) r) (sym (by_rest n a b))

module _ {n a b : ℕ} (w : Words n a b) {u : ℕ} {t : Bool} (eu : u ≡ bvsrem_value n a b) (et : t ≡ signs_differ n a b) where
  -- `bvsmod`, as computed where the divisor is added
  pub divisor_added : {r : ℕ} → not (eqb u 0) && t ≡ true → r ≡ bvadd_value n u b → r ≡ bvsmod_value n a b
  divisor_added h er = er ∙ rw (eu) (sym (by_modulus w ∙ rw (← eu, ← et, h) refl))

  -- and where it is not
  pub modulus_kept : not (eqb u 0) && t ≡ false → u ≡ bvsmod_value n a b
  modulus_kept h = sym (by_modulus w ∙ rw (← eu, ← et, h) refl)

-- Which whole number a vector stands for, at any width n.
use Rattle.std.proofs.Common.{◌≡◌, ℕ, zero, suc, ◌+◌, ◌-◌, ◌%◌, ◌^◌, ◌<◌, ◌≤◌, Bool, true, false, ltb, ℤ, pos, negsuc, neg_ℤ, sym, refl, ap, ◌∙◌, subst, mod-eq_of_lt, pow-suc, arith, pow_pos, ltb-false, ltb-true, le-ltb, lt-ltb, le-leb, leb-true}
use lib.Signed.{mag}
use Rattle.operators.specs.Signed.{InRange, Paired, StandsFor, signed, wrapped}
use Rattle.operators.proofs.Below.{bvnot_below, mod_below}

-- 2 ^ n is two halves that are not 0.
pub record Halves (n : ℕ) : Type 0 where
  pub doubled : 2 ^ n ≡ 2 ^ (n - 1) + 2 ^ (n - 1)
  pub some : 1 ≤ 2 ^ (n - 1)

-- It is so at every width from 1 on.
pub halves : {n : ℕ} → 1 ≤ n → Halves n
halves {n} h =
    let e : n ≡ suc (n - 1) = omega arith in
    record { doubled = ap (λ (m : ℕ). 2 ^ m) e ∙ pow-suc 2 (n - 1) ∙ omega arith; some = pow_pos (n - 1) }

-- A number of width n stands for a whole number: in the lower half for itself, in the upper half for one below 0.
pub data Stands (n : ℕ) : ℕ → ℤ → Type 0 where
  itself : {a : ℕ} → a < 2 ^ (n - 1) → Stands n a (pos a)
  below : {k : ℕ} → k < 2 ^ (n - 1) → Stands n (2 ^ n - suc k) (negsuc k)

-- A whole number that a vector stands for is near to 0: `mag` of it is in the lower half.
pub near : {n a : ℕ} {z : ℤ} → Stands n a z → mag z < 2 ^ (n - 1)
near (itself h) = h
near (below h) = h

-- The negation of a number that is not 0.
negation : {m : ℕ} → 1 ≤ m → neg_ℤ (pos m) ≡ negsuc (m - 1)
negation {m = zero} h = absurd (omega arith)
negation {m = suc k} h = ap negsuc (omega arith)

-- A whole number modulo 2 ^ n is below it.
fits : (n : ℕ) (z : ℤ) → wrapped n z < 2 ^ n
fits n (pos a) = mod_below n a
fits n (negsuc a) = bvnot_below n (a % 2 ^ n)

module _ {n : ℕ} (w : Halves n) where
  -- `signed` gives the whole number that a vector stands for.
  pub reads : {a : ℕ} {z : ℤ} → Stands n a z → signed n a ≡ z
  reads (itself {a} h) = rw (lt-ltb a (2 ^ (n - 1)) h)
  reads (below {k} h) =
      rw (le-ltb (2 ^ n - suc k) (2 ^ (n - 1)) (omega arith), lt-ltb (2 ^ n - suc k) (2 ^ n) (omega arith)) (ap negsuc (omega arith))

  -- `wrapped` gives the vector that stands for a whole number.
  pub writes : {a : ℕ} {z : ℤ} → Stands n a z → wrapped n z ≡ a
  writes (itself h) = mod-eq_of_lt (omega arith)
  writes (below h) = ap (λ (r : ℕ). 2 ^ n - 1 - r) (mod-eq_of_lt (omega arith)) ∙ omega arith

  -- Every vector stands for a whole number.
  pub stands : {a : ℕ} → a < 2 ^ n → Stands n a (signed n a)
  stands {a} h = go (ltb a (2 ^ (n - 1))) refl
    where
      known : {z : ℤ} → Stands n a z → Stands n a (signed n a)
      known s = subst (λ (z : ℤ). Stands n a z) (sym (reads s)) s

      go : (t : Bool) → ltb a (2 ^ (n - 1)) ≡ t → Stands n a (signed n a)
      go true e = known (itself (ltb-true a (2 ^ (n - 1)) e))
      go false e =
          let l = ltb-false a (2 ^ (n - 1)) e in
          let q : 2 ^ n - suc (2 ^ n - suc a) ≡ a = omega arith in
          known (subst (λ (v : ℕ). Stands n v (negsuc (2 ^ n - suc a))) q (below (omega arith)))

  -- For every whole number near to 0 a vector stands.
  stood_for : (z : ℤ) → mag z < 2 ^ (n - 1) → Stands n (wrapped n z) z
  stood_for (pos a) h = rw (writes (itself h)) (itself h)
  stood_for (negsuc k) h = rw (writes (below h)) (below h)

  -- What stands for a whole number is a vector of the width, and `signed` gives that number.
  pub standing : {v : ℕ} {z : ℤ} → Stands n v z → StandsFor n v z
  standing (itself h) = record { below = omega arith; stands = reads (itself h) }
  standing (below h) = record { below = omega arith; stands = reads (below h) }

  -- For a whole number near to 0 stands what it is modulo 2 ^ n.
  pub read_again : {v : ℕ} {z : ℤ} → v ≡ wrapped n z → mag z < 2 ^ (n - 1) → StandsFor n v z
  read_again {z} e h = rw e (standing (stood_for z h))

  -- A whole number near to 0 is in range.
  ranged : (z : ℤ) → mag z < 2 ^ (n - 1) → InRange n z
  ranged (pos a) h = record { least = rw (negation w.some); most = lt-ltb a _ h }
  ranged (negsuc k) h = record { least = rw (negation w.some) (le-leb k _ (omega arith)); most = refl }

  -- A whole number in range is near to 0.
  range_near : (z : ℤ) → InRange n z → mag z < 2 ^ (n - 1)
  range_near (pos a) r = ltb-true a _ r.most
  range_near (negsuc k) r = let l = leb-true k _ (rw (negation w.some) at r.least) in omega arith

  -- Vectors and the whole numbers in range stand for each other.
  pub pairs : Paired n
  pairs =
      record {
        in_range = λ a h. ranged (signed n a) (near (stands h));
        there_and_back = λ a h. writes (stands h);
        below = fits n;
        back_and_there = λ z r. (read_again refl (range_near z r)).stands;
      }

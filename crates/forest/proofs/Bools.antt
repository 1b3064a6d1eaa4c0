-- Laws of tests.
use Prim.Native.Nat.{ℕ, zero, suc, ◌<◌}
use native.Mathlib.Nat.{not-suc-le-zero}
use native.Mathlib.Omega.{arith}
use mathlib.Core.Path.{◌≡◌, refl, sym, ◌∙◌}
use borrow.Author.Tests.{eqb-true, eqb-false}
use lib.Dec.{T, eqb}
use mathlib.Core.Bool.{Bool, true, false, ◌&&◌, ◌||◌}

pub and_left : (a b : Bool) → a && b ≡ true → a ≡ true
and_left true b e = refl
and_left false b e = e

pub and_right : (a b : Bool) → a && b ≡ true → b ≡ true
and_right true b e = e
and_right false b e = let z : ◌≡◌ {A = Bool} false true = e in cc

pub or_left : (a b : Bool) → a || b ≡ false → a ≡ false
or_left true b e = e
or_left false b e = refl

pub or_right : (a b : Bool) → a || b ≡ false → b ≡ false
or_right true b e = let z : ◌≡◌ {A = Bool} true false = e in cc
or_right false b e = e

-- a test that passes at each number below n
abbrev pub every : ℕ → (ℕ → Bool) → Bool
every zero test = true
every (suc n) test = test n && every n test

both : (a b : Bool) → T (a && b) → T a × T b
both true b t = (tt, t)
both false b t = absurd t

holds : (a : Bool) → T a → a ≡ true
holds true t = refl
holds false t = absurd t

pub each : (n : ℕ) (test : ℕ → Bool) → T (every n test) → (b : ℕ) → b < n → test b ≡ true
each zero test t b h = absurd (not-suc-le-zero h)
each (suc n) test t b h = go (eqb b n) refl (each n test (both (test n) (every n test) t).1 b)
  where
    go : (e : Bool) → eqb b n ≡ e → (b < n → test b ≡ true) → test b ≡ true
    go true e r = rw (eqb-true b n e) (holds (test n) (both (test n) (every n test) t).0)
    go false e r = let ne = eqb-false b n e in r (omega arith)

pub or_other : (a b : Bool) → a ≡ false → a || b ≡ true → b ≡ true
or_other true b e t = let z : ◌≡◌ {A = Bool} true false = e in cc
or_other false b e t = t

pub and_false_left : (a b : Bool) → b ≡ true → a && b ≡ false → a ≡ false
and_false_left true b e t = sym e ∙ t
and_false_left false b e t = refl

-- no test both passes and fails
pub apart : {A : Type 0} → false ≡ true → A
apart h = let z : ◌≡◌ {A = ℕ} 0 1 = cc in absurd (omega arith)

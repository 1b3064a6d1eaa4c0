-- Laws of tests that pass.
use mathlib.Core.Path.{◌≡◌, refl}
use mathlib.Core.Logic.{◌⊎◌, inl, inr}
use Prim.Native.Nat.{ℕ}
use mathlib.Core.Bool.{Bool, true, false, ◌&&◌, ◌||◌}
use borrow.Author.Tests.{eq-eqb, eqb-true}
use lib.Dec.{eqb}
use Rattle.forest.proofs.Bools.{and_left, and_right}

-- both of two tests, one after the other
pub and-true : (a b : Bool) → a && b ≡ true → (a ≡ true) × (b ≡ true)
and-true a b e = (and_left a b e, and_right a b e)

pub and_both : {a b : Bool} → a ≡ true → b ≡ true → a && b ≡ true
and_both {a} {b} p q = rw (p, q)

-- one of two tests
pub or-true : (a b : Bool) → a || b ≡ true → (a ≡ true) ⊎ (b ≡ true)
or-true true b e = inl refl
or-true false b e = inr e

pub or_first : (a b : Bool) → a ≡ true → a || b ≡ true
or_first a b e = rw e

pub or_second : (a b : Bool) → b ≡ true → a || b ≡ true
or_second true b e = refl
or_second false b e = e

-- two equations of numbers, tested
pub equal_both : (a b c d : ℕ) → a ≡ b → c ≡ d → eqb a b && eqb c d ≡ true
equal_both a b c d e f = and_both (eq-eqb a b e) (eq-eqb c d f)

pub both_equal : (a b c d : ℕ) → eqb a b && eqb c d ≡ true → (a ≡ b) × (c ≡ d)
both_equal a b c d e = let t = and-true (eqb a b) (eqb c d) e in (eqb-true a b t.0, eqb-true c d t.1)

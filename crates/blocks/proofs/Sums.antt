-- Sums of bytes times their positions: one changed byte changes the sum modulo 65,521.
use mathlib.Core.Path.{◌≡◌, sym, ap, ◌∙◌}
use mathlib.Core.Bool.{Bool, true, not, ◌&&◌, true≢false}
use Prim.Native.Nat.{ℕ, zero, suc, ◌+◌, ◌*◌, ◌-◌, ◌/◌, ◌%◌, ◌<◌, ◌≤◌}
use native.Mathlib.Decide.{dec_lt}
use native.Mathlib.Nat.{div-add-mod, mul-add, mul-div_cancel, mul-le-mul, mul-mod_left}
use native.Mathlib.Omega.{arith}
use mathlib.Core.List.{List, [], ◌∷◌}
use lib.Dec.{eqb, leb}
use lib.ListN.{get_or, length, set}
use borrow.Author.Tests.{eq-eqb, le-leb}
use Rattle.forest.proofs.Bools.{each}
use Rattle.blocks.specs.Blocks.{sum_from}

-- the sum with one byte set
pub sum_set : (p : ℕ) (l : List ℕ) (o b : ℕ) → o < length l → sum_from p (set l o b) + (p + o) * get_or l o 0 ≡ sum_from p l + (p + o) * b
unfolding sum_from
sum_set p [] o b h = absurd (omega arith)
sum_set p (x ∷ l) zero b h = omega arith
sum_set p (x ∷ l) (suc o) b h = omega (arith, sum_set (p + 1) l o b (omega arith))

-- no number from 1 to 255 is a divisor of 65,521 with a quotient of at most 510
divides : ℕ → Bool
divides d = not (eqb (65521 % suc d) 0 && leb (65521 / suc d) 510)

no_product : (q d : ℕ) → q ≤ 510 → 0 < d → d < 256 → q * d ≡ 65521 → ⊥
unfolding divides
no_product q zero hq hd hd2 e = omega arith
no_product q (suc d) hq hd hd2 e =
    let m : 65521 % suc d ≡ 0 = ap (λ (x : ℕ). x % suc d) (sym e) ∙ mul-mod_left q (suc d) in
    let n : 65521 / suc d ≡ q = ap (λ (x : ℕ). x / suc d) (sym e) ∙ mul-div_cancel q (omega arith) in
    let t : eqb (65521 % suc d) 0 && leb (65521 / suc d) 510 ≡ true = both (eq-eqb _ _ m) (le-leb (65521 / suc d) 510 (omega (arith, n))) in
    let f : divides d ≡ true = each 255 divides tt d (omega arith) in
    true≢false (sym f ∙ ap not t)
  where
    both : {a b : Bool} → a ≡ true → b ≡ true → a && b ≡ true
    both {a} {b} p q = rw (p, q)

-- two bytes at one position give sums that differ modulo 65,521, the lesser first
less_differ : (q x y A B : ℕ) → 0 < q → q ≤ 510 → x < y → y < 256 → A + q * y ≡ B + q * x → A % 65521 ≡ B % 65521 → ⊥
less_differ q x y A B hp hq hx hy e m =
    let d : ℕ = y - x in
    let ed : q * y ≡ q * x + q * d = ap (λ (k : ℕ). q * k) (omega arith) ∙ mul-add q x d in
    let small : q * d ≤ 510 * 255 = mul-le-mul {m₁ = d} {m₂ = 255} hq (omega arith) in
    let large : 1 * 1 ≤ q * d = mul-le-mul {m₁ = 1} {m₂ = d} hp (omega arith) in
    no_product q d hq (omega arith) (omega arith) (omega (arith, div-add-mod A 65521, div-add-mod B 65521))

pub differ : (q x y A B : ℕ) → 0 < q → q ≤ 510 → (x ≡ y → ⊥) → x < 256 → y < 256 → A + q * y ≡ B + q * x → A % 65521 ≡ B % 65521 → ⊥
differ q x y A B hp hq ne hx hy e m = go (dec_lt x y)
  where
    go : Dec (x < y) → ⊥
    go (yes l) = less_differ q x y A B hp hq l hy e m
    go (no l) = less_differ q y x B A hp hq (omega (arith, ne)) hx (sym e) (sym m)

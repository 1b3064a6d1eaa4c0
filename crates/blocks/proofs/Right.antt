-- Right blocks.
use mathlib.Core.Path.{◌≡◌, refl, sym, ap, ◌∙◌}
use mathlib.Core.Bool.{Bool, true, false, ◌&&◌, true≢false}
use Prim.Native.Nat.{ℕ, ◌+◌, ◌-◌, ◌/◌, ◌%◌, ◌<◌, ◌≤◌}
use native.Mathlib.Decide.{dec_lt}
use native.Mathlib.Omega.{arith}
use mathlib.Core.List.{List, [], ◌∷◌, ◌++◌, append_cancel_left}
use lib.Dec.{eqb}
use lib.ListN.{drop, get_or, length, length-drop, length-take, set, take}
use lib.Seq.{drop-cons, drop-set-add, drop-set-lt, get_or-drop, get_or-set_same, get_or-take, take-add, take-set-le, take-set-lt}
use borrow.Author.Tests.{eqb-true, eq-eqb}
use Rattle.forest.specs.Lists.{same_bytes}
use Rattle.forest.proofs.Bools.{and_left, and_right}
use Rattle.blocks.specs.Blocks.{block_of, low, right_bytes, sum_from, sum_of}
use Rattle.blocks.proofs.Sums.{differ, sum_set}

same_bytes_lem : (u v : List ℕ) → same_bytes u v ≡ true → u ≡ v
unfolding same_bytes
same_bytes_lem [] [] e = refl
same_bytes_lem [] (b ∷ v) e = absurd (true≢false (sym e))
same_bytes_lem (a ∷ u) [] e = absurd (true≢false (sym e))
same_bytes_lem (a ∷ u) (b ∷ v) e =
    let h : a ≡ b = eqb-true a b (and_left (eqb a b) (same_bytes u v) e) in
    let t : u ≡ v = same_bytes_lem u v (and_right (eqb a b) (same_bytes u v) e) in
    cc

pub bytes_same : (u : List ℕ) → same_bytes u u ≡ true
unfolding same_bytes
bytes_same [] = refl
bytes_same (a ∷ u) = rw (eq-eqb a a refl, bytes_same u)

same_after : (u v w : List ℕ) → same_bytes (u ++ v) (u ++ w) ≡ same_bytes v w
unfolding same_bytes
same_after [] v w = refl
same_after (a ∷ u) v w = rw (eq-eqb a a refl) (same_after u v w)

-- a right block is that of its payload bytes
pub block_is : (X : List ℕ) → right_bytes X ≡ true → take 512 X ≡ block_of (take 510 X)
unfolding right_bytes
block_is X e = same_bytes_lem _ _ e

-- of a right block: its last two bytes hold the sum of the others, and it is whole
pub tail_is : (X : List ℕ) → right_bytes X ≡ true → take 2 (drop 510 X) ≡ low 2 (sum_of (take 510 X))
unfolding right_bytes block_of
tail_is X e = append_cancel_left (take 510 X) _ _ (sym (take-add 510 2 X) ∙ same_bytes_lem _ _ e)

pub whole : (X : List ℕ) → right_bytes X ≡ true → 512 ≤ length X
whole X e = omega (arith, ap length (tail_is X e), length-take 2 (drop 510 X), length-drop 510 X)

-- the two bytes after the payload
two_are : (X : List ℕ) → 512 ≤ length X → take 2 (drop 510 X) ≡ get_or X 510 0 ∷ get_or X 511 0 ∷ []
two_are X h =
    ap (take 2) (drop-cons X 510 0 (omega arith) ∙ ap (λ (l : List ℕ). get_or X 510 0 ∷ l) (drop-cons X 511 0 (omega arith)))

-- two bytes hold the sum
sum_low : (pay : List ℕ) → sum_of pay < 65536
unfolding sum_of
sum_low pay = omega arith

and_end : (a b : Bool) → a && (b && true) ≡ a && b
and_end true true = refl
and_end true false = refl
and_end false b = refl

-- what the code tests
pub tests_right : (X : List ℕ) → 512 ≤ length X → (s : ℕ) → s ≡ sum_of (take 510 X)
    → eqb (get_or X 510 0) (s % 256) && eqb (get_or X 511 0) (s / 256) ≡ right_bytes X
unfolding right_bytes block_of same_bytes
tests_right X h s es =
    let t : s / 256 % 256 ≡ s / 256 = omega (arith, es, sum_low (take 510 X)) in
    sym (
    ap (λ (l : List ℕ). same_bytes l (take 510 X ++ low 2 (sum_of (take 510 X)))) (take-add 510 2 X)
    ∙ same_after (take 510 X) (take 2 (drop 510 X)) (low 2 (sum_of (take 510 X)))
    ∙ ap (λ (l : List ℕ). same_bytes l (low 2 (sum_of (take 510 X)))) (two_are X h)
    ∙ ap (λ (n : ℕ). same_bytes (get_or X 510 0 ∷ get_or X 511 0 ∷ []) (low 2 n)) (sym es)
    ∙ and_end (eqb (get_or X 510 0) (s % 256)) (eqb (get_or X 511 0) (s / 256 % 256))
    ∙ ap (λ (n : ℕ). eqb (get_or X 510 0) (s % 256) && eqb (get_or X 511 0) n) t
    )

-- a block that is cut short
pub short_wrong : (X : List ℕ) → length X < 512 → right_bytes X ≡ false
short_wrong X h = go (right_bytes X) refl
  where
    go : (b : Bool) → right_bytes X ≡ b → right_bytes X ≡ false
    go true e = absurd (omega (arith, whole X e))
    go false e = e

-- numbers below 2^16 have one spelling
low_one : (m n : ℕ) → m < 65536 → n < 65536 → low 2 m ≡ low 2 n → m ≡ n
low_one m n hm hn e =
    let a : m % 256 ≡ n % 256 = cc in
    let b : m / 256 % 256 ≡ n / 256 % 256 = cc in
    omega arith

-- one byte of a right block changed to another byte
module _ (X : List ℕ) (e : right_bytes X ≡ true) (bytes : (k : ℕ) → get_or X k 0 < 256) (o b : ℕ) (inside : o < 512) (byte : b < 256)
    (other : b ≡ get_or X o 0 → ⊥) where
  pay_changed : o < 510 → right_bytes (set X o b) ≡ true → ⊥
  unfolding sum_of
  pay_changed h f =
      let pay = take 510 X in
      let w = whole X e in
      let lp : length pay ≡ 510 = length-take 510 X ∙ omega arith in
      let g : get_or pay o 0 ≡ get_or X o 0 = get_or-take 510 X o 0 h in
      let s : low 2 (sum_of pay) ≡ low 2 (sum_of (set pay o b)) =
      sym (tail_is X e)
      ∙ ap (take 2) (sym (drop-set-lt 510 X o b h))
      ∙ tail_is (set X o b) f
      ∙ ap (λ (l : List ℕ). low 2 (sum_of l)) (take-set-lt 510 X o b h) in
      let m : sum_of pay ≡ sum_of (set pay o b) =
      low_one (sum_of pay) (sum_of (set pay o b)) (sum_low pay) (sum_low (set pay o b)) s in
      differ (1 + o) (get_or pay o 0) b (sum_from 1 pay) (sum_from 1 (set pay o b)) (omega arith) (omega arith) (λ q. other (sym q ∙ g))
      (omega (arith, g, bytes o)) byte (sym (sum_set 1 pay o b (omega arith))) m

  sum_changed : 510 ≤ o → right_bytes (set X o b) ≡ true → ⊥
  sum_changed h f =
      let n : ℕ = o - 510 in
      let en : 510 + n ≡ o = omega arith in
      let w = whole X e in
      let s : take 2 (drop 510 X) ≡ take 2 (set (drop 510 X) n b) =
      tail_is X e
      ∙ ap (λ (l : List ℕ). low 2 (sum_of l)) (sym (take-set-le 510 X o b h))
      ∙ sym (tail_is (set X o b) f)
      ∙ ap (take 2) (ap (λ (k : ℕ). drop 510 (set X k b)) (sym en) ∙ drop-set-add 510 X n b) in
      other (
      sym (get_or-set_same (drop 510 X) n b 0 (omega (arith, length-drop 510 X)))
      ∙ sym (get_or-take 2 (set (drop 510 X) n b) n 0 (omega arith))
      ∙ ap (λ (l : List ℕ). get_or l n 0) (sym s)
      ∙ get_or-take 2 (drop 510 X) n 0 (omega arith)
      ∙ get_or-drop 510 X n 0
      ∙ ap (λ (k : ℕ). get_or X k 0) en
      )

  pub byte_changed : right_bytes (set X o b) ≡ false
  byte_changed = go (right_bytes (set X o b)) refl (dec_lt o 510)
    where
      go : (r : Bool) → right_bytes (set X o b) ≡ r → Dec (o < 510) → right_bytes (set X o b) ≡ false
      go false f d = f
      go true f (yes h) = absurd (pay_changed h f)
      go true f (no h) = absurd (sum_changed (omega arith) f)

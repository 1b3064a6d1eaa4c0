-- The loop that adds, and what the code of a block's test comes to.
use mathlib.Core.Path.{◌≡◌, sym, ap, ◌∙◌}
use mathlib.Core.Bool.{false, ◌&&◌}
use Prim.Native.Nat.{ℕ, ◌+◌, ◌*◌, ◌/◌, ◌%◌, ◌<◌, ◌≤◌}
use native.Mathlib.Nat.{mul-le-mul}
use native.Mathlib.Omega.{arith}
use mathlib.Core.List.{List, ◌∷◌}
use lib.Dec.{eqb}
use lib.ListN.{drop, drop_of_length-le, get_or, length, length-drop, take}
use lib.Seq.{get_or-drop}
use Rattle.std.proofs.lemmas.Bool.Decides.{nat_tests}
use Rattle.forest.proofs.Lists.{drop_next}
use Rattle.blocks.specs.Blocks.{pay_size, right_block, sum_from, sum_of}
use Rattle.blocks.proofs.Right.{short_wrong, tests_right}

-- what has been added, and what is left to add
pub record Inv (pay : List ℕ) (sum i : ℕ) : Type 0 where
  pub small : sum ≤ 130050 * i
  pub adds : sum + sum_from (i + 1) (drop i pay) ≡ sum_from 1 pay

pub sum_start : {pay : List ℕ} → Inv pay 0 0
sum_start = record { small = omega arith; adds = omega arith }

module _ {pay : List ℕ} {sum i : ℕ} (v : Inv pay sum i) where
  pub sum_end : length pay ≤ i → sum ≡ sum_from 1 pay
  unfolding sum_from
  sum_end h =
      let e : sum_from (i + 1) (drop i pay) ≡ 0 = ap (sum_from (i + 1)) (drop_of_length-le pay h) in
      omega (arith, v.adds, e)

  module _ (h : i < length pay) (short : length pay ≤ 510) {x : ℕ} (ex : x ≡ get_or pay i 0) (byte : x < 256) where
    pub term_small : (i + 1) * x ≤ 130050
    term_small =
        let a : i + 1 ≤ 510 = omega arith in
        let b : x ≤ 255 = omega arith in
        let z : (i + 1) * x ≤ 510 * 255 = mul-le-mul a b in
        omega arith

    pub sum_more : Inv pay (sum + (i + 1) * x) (i + 1)
    unfolding sum_from
    sum_more =
        let e : drop i pay ≡ x ∷ drop (i + 1) pay = drop_next pay i h ∙ ap (λ (n : ℕ). n ∷ drop (i + 1) pay) (sym ex) in
        record { small = omega (arith, v.small, term_small); adds = omega (arith, v.adds, ap (sum_from (i + 1)) e) }

-- a number is held where each of its two bytes is
pair_told : (x y s : ℕ) → x < 256 → eqb (x + 256 * y) s ≡ eqb x (s % 256) && eqb y (s / 256)
pair_told x y s low = grind (arith, nat_tests)

module _ (file : List ℕ) (k : ℕ) where
  pub cut_short : length file / 512 ≤ k → false ≡ right_block file k
  unfolding right_block
  cut_short h = sym (short_wrong (drop (512 * k) file) (omega (arith, length-drop (512 * k) file)))

  pub block_fits : k < length file / 512 → 512 * k + 512 ≤ length file
  block_fits h = omega arith

  module _ (h : k < length file / 512) {s : ℕ} (es : s ≡ sum_from 1 (take pay_size (drop (512 * k) file))) {x y : ℕ} (ex : x ≡ get_or file (512 * k + 510) 0)
      (ey : y ≡ get_or file (512 * k + 510 + 1) 0) where
    pub block_told : x < 256 → {held : ℕ} → held ≡ x + 256 * y → eqb held (s % 65521) ≡ right_block file k
    unfolding right_block sum_of
    block_told low eh =
        let X = drop (512 * k) file in
        let e1 : x ≡ get_or X 510 0 = ex ∙ sym (get_or-drop (512 * k) file 510 0) in
        let e2 : y ≡ get_or X 511 0 =
        ey ∙ ap (λ (n : ℕ). get_or file n 0) (omega arith) ∙ sym (get_or-drop (512 * k) file 511 0) in
        ap (λ (n : ℕ). eqb n (s % 65521)) eh
        ∙ pair_told x y (s % 65521) low
        ∙ ap (λ (n : ℕ). eqb n (s % 65521 % 256) && eqb y (s % 65521 / 256)) e1
        ∙ ap (λ (n : ℕ). eqb (get_or X 510 0) (s % 65521 % 256) && eqb n (s % 65521 / 256)) e2
        ∙ tests_right X (omega (arith, length-drop (512 * k) file)) (s % 65521) (ap (λ (n : ℕ). n % 65521) es)

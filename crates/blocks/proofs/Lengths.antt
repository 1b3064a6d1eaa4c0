-- Numbers that payload bytes hold, and the loop that adds the lengths of lists.
use mathlib.Core.Path.{◌≡◌, refl, ap, ◌∙◌}
use Prim.Native.Nat.{ℕ, ◌+◌, ◌*◌, ◌≤◌}
use native.Mathlib.Numerals.{add-one}
use native.Mathlib.Nat.{add-zero}
use native.Mathlib.Omega.{arith}
use mathlib.Core.List.{List, [], ◌∷◌}
use lib.ListN.{drop, get_or, take}
use lib.Seq.{get_or-drop}
use Rattle.blocks.specs.Blocks.{number_of}
use Rattle.blocks.specs.Layout.{list_length_in, number_in, rules_before}
use Rattle.blocks.specs.code.Below.{Below}

two : (X : List ℕ) → number_of (take 2 X) ≡ get_or X 0 0 + 256 * get_or X 1 0
two [] = refl
two (a ∷ []) = omega arith
two (a ∷ b ∷ X) = omega arith

four : (X : List ℕ) → number_of (take 4 X) ≡ get_or X 0 0 + 256 * get_or X 1 0 + 65536 * get_or X 2 0 + 16777216 * get_or X 3 0
four [] = refl
four (a ∷ []) = omega arith
four (a ∷ b ∷ []) = omega arith
four (a ∷ b ∷ c ∷ []) = omega arith
four (a ∷ b ∷ c ∷ d ∷ X) = omega arith

first_of : (P : List ℕ) (at : ℕ) → get_or (drop at P) 0 0 ≡ get_or P at 0
first_of P at = get_or-drop at P 0 0 ∙ ap (λ (n : ℕ). get_or P n 0) (add-zero at)

-- two bytes
pub pair_is : (P : List ℕ) (at : ℕ) → get_or P at 0 + 256 * get_or P (at + 1) 0 ≡ number_in P at 2
unfolding number_in
pair_is P at = omega (arith, two (drop at P), first_of P at, get_or-drop at P 1 0)

-- four bytes
pub four_is : (P : List ℕ) (at : ℕ)
    → get_or P at 0 + 256 * get_or P (at + 1) 0 + 65536 * get_or P (at + 2) 0 + 16777216 * get_or P (at + 3) 0 ≡ number_in P at 4
unfolding number_in
four_is P at = omega (arith, four (drop at P), first_of P at, get_or-drop at P 1 0, get_or-drop at P 2 0, get_or-drop at P 3 0)

-- the lengths of the lists before k are added
pub record Adding (file : List ℕ) (rules k : ℕ) : Type 0 where
  pub is : rules ≡ rules_before file k
  pub low : rules ≤ 65535 * k

pub add_start : {file : List ℕ} → Adding file 0 0
unfolding rules_before
add_start = record { is = refl; low = omega arith }

pub add_more : {file : List ℕ} {rules k : ℕ} → Adding file rules k → {x : ℕ} → Below (list_length_in file k) 65536 x → Adding file (rules + x) (k + 1)
unfolding rules_before
add_more {file} {rules} {k} v {x} b =
    let e : rules_before file (k + 1) ≡ rules_before file k + list_length_in file k = ap (rules_before file) (add-one k) in
    record { is = omega (arith, e, v.is, b.is); low = omega (arith, v.low, b.low) }

pub add_end : {file : List ℕ} {rules k function : ℕ} → Adding file rules k → function ≤ 8 → k ≡ function → Below (rules_before file function) 524289 rules
add_end {file} v within e = record { is = v.is ∙ ap (rules_before file) e; low = omega (arith, v.low, within, e) }

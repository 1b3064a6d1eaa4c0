-- The loops that copy payload bytes, and rules of two bytes each.
use mathlib.Core.Path.{◌≡◌, refl, sym, ap, ◌∙◌}
use Prim.Native.Nat.{ℕ, zero, suc, ◌+◌, ◌*◌, ◌<◌, ◌≤◌}
use native.Mathlib.Numerals.{add-one}
use native.Mathlib.Omega.{arith}
use mathlib.Core.List.{List, [], ◌∷◌, ◌++◌}
use lib.ListN.{drop, get_or, length, length-drop, set, take}
use lib.Seq.{drop-drop, get_or-drop, take_all, take-suc, take-suc-set}
use Rattle.blocks.specs.Blocks.{number_of, payload_in}
use Rattle.blocks.specs.Layout.{number_in, pairs}

-- the first i bytes are copied
abbrev pub Copied : (file : List ℕ) (from : ℕ) (out : List ℕ) (i : ℕ) → Type 0
Copied file from out i = take i out ≡ take i (drop from (payload_in file))

module _ (file : List ℕ) (from : ℕ) (out : List ℕ) (i : ℕ) (v : Copied file from out i) where
  pub copy_more : from + length out ≤ length (payload_in file) → i < length out → {x : ℕ} → x ≡ get_or (payload_in file) (from + i) 0
      → Copied file from (set out i x) (i + 1)
  copy_more room h {x} ex =
      let D = drop from (payload_in file) in
      let e : take (suc i) (set out i x) ≡ take (suc i) D =
      take-suc-set out i x h
      ∙ ap (λ (l : List ℕ). l ++ (x ∷ [])) v
      ∙ ap (λ (n : ℕ). take i D ++ (n ∷ [])) (ex ∙ sym (get_or-drop from (payload_in file) i 0))
      ∙ sym (take-suc D i 0 (omega (arith, length-drop from (payload_in file)))) in
      rw (add-one i) e

  pub copy_end : i ≡ length out → out ≡ take (length out) (drop from (payload_in file))
  copy_end e = sym (take_all i out (omega arith)) ∙ v ∙ ap (λ (n : ℕ). take n (drop from (payload_in file))) e

-- one pair of bytes more
pairs_more : (X : List ℕ) (i : ℕ) → 2 * i + 2 ≤ length X → pairs (take (2 * suc i) X) ≡ pairs (take (2 * i) X) ++ (number_in X (2 * i) 2 ∷ [])
unfolding pairs number_in
pairs_more [] i h = absurd (omega arith)
pairs_more (a ∷ []) i h = absurd (omega arith)
pairs_more (a ∷ b ∷ X) zero h = refl
pairs_more (a ∷ b ∷ X) (suc i) h =
    let z : 2 * suc i ≡ suc (suc (2 * i)) = omega arith in
    let y : 2 * suc (suc i) ≡ suc (suc (2 * suc i)) = omega arith in
    ap (λ (n : ℕ). pairs (take n (a ∷ b ∷ X))) y
    ∙ ap (λ (l : List ℕ). number_of (a ∷ b ∷ []) ∷ l) (pairs_more X i (omega arith))
    ∙ sym (ap (λ (n : ℕ). pairs (take n (a ∷ b ∷ X)) ++ (number_in (a ∷ b ∷ X) n 2 ∷ [])) z)

-- the first i rules are copied
abbrev pub Listed : (file : List ℕ) (from : ℕ) (out : List ℕ) (i : ℕ) → Type 0
Listed file from out i = take i out ≡ pairs (take (2 * i) (drop from (payload_in file)))

pub list_start : (file : List ℕ) (from : ℕ) (out : List ℕ) → Listed file from out 0
unfolding pairs
list_start file from out = refl

module _ (file : List ℕ) (from : ℕ) (out : List ℕ) (i : ℕ) (v : Listed file from out i) where
  pub list_more : from + 2 * length out ≤ length (payload_in file) → i < length out → {x : ℕ} → x ≡ number_in (payload_in file) (from + 2 * i) 2
      → Listed file from (set out i x) (i + 1)
  unfolding number_in
  list_more room h {x} is =
      let D = drop from (payload_in file) in
      let ex : x ≡ number_in D (2 * i) 2 = is ∙ sym (ap (λ (l : List ℕ). number_of (take 2 l)) (drop-drop (2 * i) from (payload_in file))) in
      let e : take (suc i) (set out i x) ≡ pairs (take (2 * suc i) D) =
      take-suc-set out i x h
      ∙ ap (λ (l : List ℕ). l ++ (x ∷ [])) v
      ∙ ap (λ (n : ℕ). pairs (take (2 * i) D) ++ (n ∷ [])) ex
      ∙ sym (pairs_more D i (omega (arith, length-drop from (payload_in file)))) in
      rw (add-one i) e

  pub list_end : i ≡ length out → out ≡ pairs (take (2 * length out) (drop from (payload_in file)))
  list_end e = sym (take_all i out (omega arith)) ∙ v ∙ ap (λ (n : ℕ). pairs (take (2 * n) (drop from (payload_in file)))) e

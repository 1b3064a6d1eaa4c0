-- A file without a wrong block is what its payload is cut into; and where a payload byte stands.
use mathlib.Core.Path.{◌≡◌, refl, sym, ap, ◌∙◌}
use mathlib.Core.Bool.{true}
use mathlib.Core.Option.{none}
use Prim.Native.Nat.{ℕ, zero, suc, ◌+◌, ◌*◌, ◌-◌, ◌/◌, ◌<◌, ◌≤◌}
use native.Mathlib.Decide.{dec_lt}
use native.Mathlib.Omega.{arith}
use mathlib.Core.List.{List, [], ◌∷◌, ◌++◌}
use lib.ListN.{get_or-append, get_or-eq_default, drop, get_or, length, length-append, length-drop, take, take-append-drop}
use lib.Seq.{drop_at, drop-drop, get_or-append-add, get_or-drop, get_or-take, length-take-le, take_at}
use Rattle.blocks.specs.Blocks.{block_of, blocks_in, cut_into, framed, filled, first_wrong, pay_in, payload_in, right_block, right_bytes}
use Rattle.blocks.proofs.Right.{block_is, whole}
use Rattle.blocks.proofs.Changed.{none_wrong}

-- n right blocks
again : (n : ℕ) (file : List ℕ) → length file ≡ 512 * n → ((k : ℕ) → k < n → right_block file k ≡ true) → cut_into n (pay_in n file) ≡ file
unfolding cut_into pay_in right_block
again zero [] e r = refl
again zero (x ∷ file) e r = absurd (omega arith)
again (suc n) file e r =
    let l : length (take 510 file) ≡ 510 = length-take-le 510 file (omega arith) in
    let rest = pay_in n (drop 512 file) in
    let e1 : take 510 (take 510 file ++ rest) ≡ take 510 file = take_at (take 510 file) rest 510 l in
    let e2 : drop 510 (take 510 file ++ rest) ≡ rest = drop_at (take 510 file) rest 510 l in
    let e3 : block_of (take 510 file) ≡ take 512 file = sym (block_is file (r 0 (omega arith))) in
    let e4 : cut_into n rest ≡ drop 512 file =
    again n (drop 512 file) (length-drop 512 file ∙ omega arith)
    (λ k h.
    let z : 512 + 512 * k ≡ 512 * suc k = omega arith in
    ap right_bytes (drop-drop (512 * k) 512 file ∙ ap (λ (m : ℕ). drop m file) z) ∙ r (suc k) (omega arith)) in
    ap (λ (x : List ℕ). block_of x ++ cut_into n (drop 510 (take 510 file ++ rest))) e1
    ∙ ap (λ (x : List ℕ). block_of (take 510 file) ++ cut_into n x) e2
    ∙ ap (λ (x : List ℕ). x ++ cut_into n rest) e3
    ∙ ap (λ (x : List ℕ). take 512 file ++ x) e4
    ∙ take-append-drop 512 file

pub cut_again : (file : List ℕ) → first_wrong file ≡ none → cut_into (length file / 512) (payload_in file) ≡ file
unfolding first_wrong payload_in right_block
cut_again file e =
    let right : (j : ℕ) → j < blocks_in file → right_block file j ≡ true = λ j h. none_wrong file 0 (blocks_in file) e j (omega arith) (omega arith) in
    let n : ℕ = blocks_in file in
    let last = whole (drop (512 * (n - 1)) file) (right (n - 1) (omega arith)) in
    let some = length-drop (512 * (n - 1)) file in
    again (length file / 512) file (omega arith) (λ k h. right k (omega arith))

pay_length : (n : ℕ) (file : List ℕ) → 512 * n ≤ length file → length (pay_in n file) ≡ 510 * n
unfolding pay_in
pay_length zero file e = refl
pay_length (suc n) file e =
    length-append (take 510 file) (pay_in n (drop 512 file))
    ∙ omega (arith, length-take-le 510 file (omega arith), pay_length n (drop 512 file) (omega (arith, length-drop 512 file)))

-- so it is the file of a payload where it holds that payload and its zeros
pub file_is : (file payload : List ℕ) → first_wrong file ≡ none → payload_in file ≡ filled payload → framed payload ≡ file
unfolding framed payload_in
file_is file payload e p =
    let l = pay_length (length file / 512) file (omega arith) in
    let z : length (filled payload) / 510 ≡ length file / 512 = omega (arith, ap length p) in
    ap (λ (n : ℕ). cut_into n (filled payload)) z ∙ ap (cut_into (length file / 512)) (sym p) ∙ cut_again file e

-- payload byte p of n whole blocks
pay-in : (n : ℕ) (file : List ℕ) → 512 * n ≤ length file → (p : ℕ) → p < 510 * n → get_or (pay_in n file) p 0 ≡ get_or file (p + 2 * (p / 510)) 0
unfolding pay_in
pay-in zero file e p h = absurd (omega arith)
pay-in (suc n) file e p h = go (dec_lt p 510) (pay-in n (drop 512 file) (omega (arith, length-drop 512 file)) (p - 510))
  where
    l : length (take 510 file) ≡ 510
    l = length-take-le 510 file (omega arith)

    go : Dec (p < 510) → (p - 510 < 510 * n → get_or (pay_in n (drop 512 file)) (p - 510) 0 ≡ get_or (drop 512 file) (p - 510 + 2 * ((p - 510) / 510)) 0)
        → get_or (take 510 file ++ pay_in n (drop 512 file)) p 0 ≡ get_or file (p + 2 * (p / 510)) 0
    go (yes y) more =
        get_or-append (take 510 file) (pay_in n (drop 512 file)) 0 p (omega (arith, l))
        ∙ get_or-take 510 file p 0 y
        ∙ ap (λ (m : ℕ). get_or file m 0) (omega arith)
    go (no y) more =
        let z : length (take 510 file) + (p - 510) ≡ p = omega (arith, l) in
        ap (λ (m : ℕ). get_or (take 510 file ++ pay_in n (drop 512 file)) m 0) (sym z)
        ∙ get_or-append-add (take 510 file) (pay_in n (drop 512 file)) (p - 510) 0
        ∙ more (omega arith)
        ∙ get_or-drop 512 file (p - 510 + 2 * ((p - 510) / 510)) 0
        ∙ ap (λ (m : ℕ). get_or file m 0) (omega arith)

-- how many payload bytes a file has
pub payload_length : (file : List ℕ) → length (payload_in file) ≡ 510 * (length file / 512)
unfolding payload_in
payload_length file = pay_length (length file / 512) file (omega arith)

module _ (file : List ℕ) (p : ℕ) where
  pub pay_past : length file / 512 ≤ p / 510 → 0 ≡ get_or (payload_in file) p 0
  unfolding payload_in
  pay_past h =
      sym (get_or-eq_default (pay_in (length file / 512) file) 0 {n = p} (omega (arith, pay_length (length file / 512) file (omega arith))))

  pub pay_told : p / 510 < length file / 512 → {x : ℕ} → x ≡ get_or file (p + 2 * (p / 510)) 0 → x ≡ get_or (payload_in file) p 0
  unfolding payload_in
  pay_told h ex = ex ∙ sym (pay-in (length file / 512) file (omega arith) p (omega arith))

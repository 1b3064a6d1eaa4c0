-- A file that was cut from a payload has no wrong block.
use mathlib.Core.Path.{◌≡◌, refl, sym, ap, ◌∙◌}
use mathlib.Core.Bool.{true}
use mathlib.Core.Option.{none}
use Prim.Native.Nat.{ℕ, zero, suc, ◌+◌, ◌*◌, ◌-◌, ◌/◌, ◌%◌, ◌<◌, ◌≤◌}
use native.Mathlib.Nat.{mod-lt}
use native.Mathlib.Omega.{arith}
use mathlib.Core.List.{List, [], ◌∷◌, ◌++◌, append_assoc}
use lib.Dec.{lit<}
use lib.ListN.{drop, length, length-append, length-drop, length-replicate, replicate, take, take-append-drop}
use lib.Seq.{drop_at, drop-drop, length-take-le, take_at}
use Rattle.blocks.specs.Blocks.{block_of, blocks_in, cut_into, framed, filled, first_wrong, pay_in, payload_in, low, right_block, right_bytes, sum_of}
use Rattle.blocks.specs.Blocks.{wrong_from}
use Rattle.blocks.proofs.Right.{bytes_same}

block_length : (pay : List ℕ) → length pay ≡ 510 → length (block_of pay) ≡ 512
unfolding block_of
block_length pay e = length-append pay (low 2 (sum_of pay)) ∙ omega arith

pay_is : (pay more : List ℕ) → length pay ≡ 510 → take 510 (block_of pay ++ more) ≡ pay
unfolding block_of
pay_is pay more e = ap (take 510) (append_assoc pay (low 2 (sum_of pay)) more) ∙ take_at pay (low 2 (sum_of pay) ++ more) 510 e

-- a block of 510 bytes, and anything after it
block_right : (pay more : List ℕ) → length pay ≡ 510 → right_bytes (block_of pay ++ more) ≡ true
unfolding right_bytes
block_right pay more e =
    let e1 : take 512 (block_of pay ++ more) ≡ block_of pay = take_at (block_of pay) more 512 (block_length pay e) in
    let e2 : take 510 (block_of pay ++ more) ≡ pay = pay_is pay more e in
    rw (e1, e2) (bytes_same (block_of pay))

cut_length : (n : ℕ) (pay : List ℕ) → length pay ≡ 510 * n → length (cut_into n pay) ≡ 512 * n
unfolding cut_into
cut_length zero pay e = refl
cut_length (suc n) pay e =
    length-append (block_of (take 510 pay)) (cut_into n (drop 510 pay))
    ∙ omega (
      arith,
      block_length (take 510 pay) (length-take-le 510 pay (omega arith)),
      cut_length n (drop 510 pay) (length-drop 510 pay ∙ omega arith),
    )

cut_right : (n : ℕ) (pay : List ℕ) → length pay ≡ 510 * n → (k : ℕ) → k < n → right_block (cut_into n pay) k ≡ true
unfolding cut_into right_block
cut_right zero pay e k h = absurd (omega arith)
cut_right (suc n) pay e zero h = block_right (take 510 pay) (cut_into n (drop 510 pay)) (length-take-le 510 pay (omega arith))
cut_right (suc n) pay e (suc k) h =
    let l = block_length (take 510 pay) (length-take-le 510 pay (omega arith)) in
    let z : 512 * suc k ≡ 512 + 512 * k = omega arith in
    let d : drop (512 * suc k) (block_of (take 510 pay) ++ cut_into n (drop 510 pay)) ≡ drop (512 * k) (cut_into n (drop 510 pay)) =
    ap (λ (m : ℕ). drop m (block_of (take 510 pay) ++ cut_into n (drop 510 pay))) z
    ∙ sym (drop-drop (512 * k) 512 (block_of (take 510 pay) ++ cut_into n (drop 510 pay)))
    ∙ ap (drop (512 * k)) (drop_at (block_of (take 510 pay)) (cut_into n (drop 510 pay)) 512 l) in
    ap right_bytes d ∙ cut_right n (drop 510 pay) (length-drop 510 pay ∙ omega arith) k (omega arith)

all_right : (file : List ℕ) (k n : ℕ) → ((j : ℕ) → k ≤ j → j < k + n → right_block file j ≡ true) → wrong_from file k n ≡ none
unfolding wrong_from
all_right file k zero r = refl
all_right file k (suc n) r = rw (r k (omega arith) (omega arith)) (all_right file (k + 1) n (λ j a b. r j (omega arith) (omega arith)))

pub filled_length : (payload : List ℕ) → length (filled payload) ≡ 510 * (length (filled payload) / 510)
unfolding filled
filled_length payload =
    let n = length payload in
    let r = length-replicate {A = ℕ} ((510 - n % 510) % 510) 0 in
    let s = length-append payload (replicate ((510 - n % 510) % 510) 0) in
    omega arith

pub filled_long : (payload : List ℕ) → length payload ≤ length (filled payload)
unfolding filled
filled_long payload = omega (arith, length-append payload (replicate ((510 - length payload % 510) % 510) 0))

pub filled_short : (payload : List ℕ) → length (filled payload) < length payload + 510
unfolding filled
filled_short payload =
    let r = length-replicate {A = ℕ} ((510 - length payload % 510) % 510) 0 in
    omega (arith, length-append payload (replicate ((510 - length payload % 510) % 510) 0), mod-lt (510 - length payload % 510) (lit< {m = 0} {n = 510} tt))

-- the blocks that a payload is cut into are right
pub cut_whole : (payload : List ℕ) → 0 < length payload → first_wrong (framed payload) ≡ none
unfolding first_wrong framed
cut_whole payload h =
    let n : ℕ = length (filled payload) / 510 in
    let e = filled_length payload in
    let l = cut_length n (filled payload) e in
    all_right (cut_into n (filled payload)) 0 (blocks_in (cut_into n (filled payload)))
    (λ j a b. cut_right n (filled payload) e j (omega (arith, filled_long payload)))

-- and are as many as it needs
pub framed_length : (payload : List ℕ) → length (framed payload) ≡ 512 * ((length payload + 509) / 510)
unfolding framed
framed_length payload =
    let n : ℕ = length (filled payload) / 510 in
    let e = filled_length payload in
    let l = filled_long payload in
    let s = filled_short payload in
    cut_length n (filled payload) e ∙ omega arith

-- and hold it again
pay_cut : (n : ℕ) (pay : List ℕ) → length pay ≡ 510 * n → pay_in n (cut_into n pay) ≡ pay
unfolding pay_in cut_into
pay_cut zero [] e = refl
pay_cut zero (x ∷ pay) e = absurd (omega arith)
pay_cut (suc n) pay e =
    let l : length (take 510 pay) ≡ 510 = length-take-le 510 pay (omega arith) in
    let rest = cut_into n (drop 510 pay) in
    let e1 : take 510 (block_of (take 510 pay) ++ rest) ≡ take 510 pay = pay_is (take 510 pay) rest l in
    let e2 : drop 512 (block_of (take 510 pay) ++ rest) ≡ rest = drop_at (block_of (take 510 pay)) rest 512 (block_length (take 510 pay) l) in
    ap (λ (x : List ℕ). x ++ pay_in n (drop 512 (block_of (take 510 pay) ++ rest))) e1
    ∙ ap (λ (x : List ℕ). take 510 pay ++ pay_in n x) e2
    ∙ ap (λ (x : List ℕ). take 510 pay ++ x) (pay_cut n (drop 510 pay) (length-drop 510 pay ∙ omega arith))
    ∙ take-append-drop 510 pay

pub payload_again : (payload : List ℕ) → payload_in (framed payload) ≡ filled payload
unfolding payload_in framed
payload_again payload =
    let n : ℕ = length (filled payload) / 510 in
    let e = filled_length payload in
    let z : length (cut_into n (filled payload)) / 512 ≡ n = omega (arith, cut_length n (filled payload) e) in
    ap (λ (m : ℕ). pay_in m (cut_into n (filled payload))) z ∙ pay_cut n (filled payload) e

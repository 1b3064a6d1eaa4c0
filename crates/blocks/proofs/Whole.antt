-- A file of bytes without a fault is the file of the texts and lists that it says.
use mathlib.Core.Path.{◌≡◌, refl, sym, ap, ◌∙◌}
use mathlib.Core.Bool.{Bool, true, false, cond}
use mathlib.Core.Option.{Option, none, some}
use Prim.Native.Nat.{ℕ, zero, suc, ◌+◌, ◌*◌, ◌-◌, ◌/◌, ◌%◌, ◌<◌, ◌≤◌}
use native.Mathlib.Decide.{dec_lt}
use native.Mathlib.Nat.{add-zero}
use native.Mathlib.Omega.{arith}
use mathlib.Core.List.{List, [], ◌∷◌, ◌++◌}
use lib.Dec.{eqb, ltb}
use lib.ListN.{drop, get_or, length, length-drop, replicate, take, take-append-drop}
use lib.Seq.{drop-drop, get_or-drop, length-take-le, take-add, take_all}
use borrow.Author.Tests.{eqb-true, ltb-false}
use Rattle.forest.specs.Tables.{rows}
use Rattle.forest.proofs.Bools.{and_left, and_right}
use Rattle.forest.proofs.Options.{never}
use Rattle.blocks.specs.Blocks.{file_of, filled, first_wrong, low, number_of, payload_in, payload_of}
use Rattle.blocks.specs.Layout.{file_fault, filling_in, last_needed, list_at, list_in, list_length_in, lists_from, lists_in, misfilled, needed_in, number_in}
use Rattle.blocks.specs.Layout.{or_else, pairs, response_in, response_length_in, rules_before, script_in, script_length_in, zeros}
use Rattle.blocks.specs.code.Lists.{lengths_of, rules_of}
use Rattle.blocks.proofs.Again.{file_is, pay_past, pay_told, payload_length}

-- ---- no fault

pub neither : (o later : Option ℕ) → or_else o later ≡ none → (o ≡ none) × (later ≡ none)
neither none later e = (refl, e)
neither (some k) later e = never (sym e)

-- what a filling without a fault passes
pub passes : (a z s : Bool) (k : ℕ) → cond a (some 0) (cond z (cond s (some (k + 1)) none) (some k)) ≡ none → (a ≡ false) × ((z ≡ true) × (s ≡ false))
passes true z s k e = never (sym e)
passes false false s k e = never (sym e)
passes false true true k e = never (sym e)
passes false true false k e = (refl, (refl, refl))

all_zeros : (l : List ℕ) → zeros l ≡ true → l ≡ replicate (length l) 0
unfolding zeros
all_zeros [] e = refl
all_zeros (b ∷ l) e =
    let h : b ≡ 0 = eqb-true b 0 (and_left (eqb b 0) (zeros l) e) in
    ap (λ (n : ℕ). n ∷ l) h ∙ ap (λ (m : List ℕ). 0 ∷ m) (all_zeros l (and_right (eqb b 0) (zeros l) e))

-- ---- bytes and the numbers that they hold

-- the first n of bytes
part_low : (X : List ℕ) (n : ℕ) → n ≤ length X → ((k : ℕ) → get_or X k 0 < 256) → low n (number_of (take n X)) ≡ take n X
part_low X zero h bytes = refl
part_low [] (suc n) h bytes = absurd (omega arith)
part_low (b ∷ X) (suc n) h bytes =
    let l : b < 256 = bytes 0 in
    let e1 : (b + 256 * number_of (take n X)) % 256 ≡ b = omega arith in
    let e2 : (b + 256 * number_of (take n X)) / 256 ≡ number_of (take n X) = omega arith in
    ap (λ (x : ℕ). x ∷ low n ((b + 256 * number_of (take n X)) / 256)) e1
    ∙ ap (λ (x : ℕ). b ∷ low n x) e2
    ∙ ap (λ (x : List ℕ). b ∷ x) (part_low X n (omega arith) (λ k. bytes (suc k)))

-- bytes two by two
low_pairs : (l : List ℕ) (n : ℕ) → length l ≡ 2 * n → ((k : ℕ) → get_or l k 0 < 256) → rows (low 2) (pairs l) ≡ l
unfolding rows pairs
low_pairs [] n e bytes = refl
low_pairs (a ∷ []) n e bytes = absurd (omega arith)
low_pairs (a ∷ b ∷ l) n e bytes =
    ap (λ (m : List ℕ). m ++ rows (low 2) (pairs l)) (part_low (a ∷ b ∷ l) 2 (omega arith) bytes)
    ∙ ap (λ (m : List ℕ). a ∷ b ∷ m) (low_pairs l (n - 1) (omega arith) (λ k. bytes (suc (suc k))))

pub pairs_length : (l : List ℕ) (n : ℕ) → length l ≡ 2 * n → length (pairs l) ≡ n
unfolding pairs
pairs_length [] n e = omega arith
pairs_length (a ∷ []) n e = absurd (omega arith)
pairs_length (a ∷ b ∷ l) n e = omega (arith, pairs_length l (n - 1) (omega arith))

-- how many rules the n lists from j on have
unfoldable pub rules_from : (file : List ℕ) → (j n : ℕ) → ℕ
rules_from file j zero = 0
rules_from file j (suc n) = list_length_in file j + rules_from file (suc j) n

pub rules-from : (file : List ℕ) (j n : ℕ) → rules_before file (j + n) ≡ rules_before file j + rules_from file j n
unfolding rules_before rules_from
rules-from file j zero = ap (rules_before file) (add-zero j) ∙ sym (add-zero (rules_before file j))
rules-from file j (suc n) =
    let z : j + suc n ≡ suc j + n = omega arith in
    let e : rules_before file (j + suc n) ≡ rules_before file (suc j) + rules_from file (suc j) n = ap (rules_before file) z ∙ rules-from file (suc j) n in
    omega (arith, e)

module _ (file : List ℕ) (bytes : (k : ℕ) → get_or (payload_in file) k 0 < 256) where
  dropped : (n k : ℕ) → get_or (drop n (payload_in file)) k 0 < 256
  dropped n k = rw (get_or-drop n (payload_in file) k 0) (bytes (n + k))

  taken : (m n k : ℕ) → get_or (take m (drop n (payload_in file))) k 0 < 256
  taken m n k = go (drop n (payload_in file)) (dropped n) m k
    where
      go : (l : List ℕ) → ((k : ℕ) → get_or l k 0 < 256) → (m k : ℕ) → get_or (take m l) k 0 < 256
      go l h zero k = omega arith
      go [] h (suc m) k = omega arith
      go (b ∷ l) h (suc m) zero = h 0
      go (b ∷ l) h (suc m) (suc k) = go l (λ i. h (suc i)) m k

  -- a list within the payload has as many rules as its length says
  list-size : (j : ℕ) → list_at file j + 2 * list_length_in file j ≤ length (payload_in file)
      → length (take (2 * list_length_in file j) (drop (list_at file j) (payload_in file))) ≡ 2 * list_length_in file j
  list-size j h =
      length-take-le (2 * list_length_in file j) (drop (list_at file j) (payload_in file)) (omega (arith, length-drop (list_at file j) (payload_in file)))

  lengths_are : (n j : ℕ) → 8 + 2 * j + 2 * n ≤ length (payload_in file) → list_at file j + 2 * rules_from file j n ≤ length (payload_in file)
      → lengths_of (lists_from file j n) ≡ take (2 * n) (drop (8 + 2 * j) (payload_in file))
  unfolding rows lists_from rules_from rules_before list_in list_length_in number_in
  lengths_are zero j a b = refl
  lengths_are (suc n) j a b =
      let P = payload_in file in
      let D = drop (8 + 2 * j) P in
      let el : length (list_in file j) ≡ list_length_in file j =
      pairs_length (take (2 * list_length_in file j) (drop (list_at file j) P)) (list_length_in file j) (list-size j (omega arith)) in
      let e1 : low 2 (length (list_in file j)) ≡ take 2 D =
      ap (low 2) el ∙ part_low D 2 (omega (arith, length-drop (8 + 2 * j) P)) (dropped (8 + 2 * j)) in
      let y : 8 + 2 * suc j ≡ 8 + 2 * j + 2 = omega arith in
      let e2 : lengths_of (lists_from file (suc j) n) ≡ take (2 * n) (drop 2 D) =
      lengths_are n (suc j) (omega arith) (omega arith)
      ∙ ap (λ (m : ℕ). take (2 * n) (drop m P)) y
      ∙ ap (take (2 * n)) (sym (drop-drop 2 (8 + 2 * j) P)) in
      let z : 2 + 2 * n ≡ 2 * suc n = omega arith in
      ap (λ (l : List ℕ). l ++ lengths_of (lists_from file (suc j) n)) e1
      ∙ ap (λ (l : List ℕ). take 2 D ++ l) e2
      ∙ sym (take-add 2 (2 * n) D)
      ∙ ap (λ (m : ℕ). take m D) z

  rules_are : (n j : ℕ) → list_at file j + 2 * rules_from file j n ≤ length (payload_in file)
      → rules_of (lists_from file j n) ≡ take (2 * rules_from file j n) (drop (list_at file j) (payload_in file))
  unfolding rows lists_from rules_from rules_before list_in
  rules_are zero j b = refl
  rules_are (suc n) j b =
      let P = payload_in file in
      let D = drop (list_at file j) P in
      let k : ℕ = 2 * list_length_in file j in
      let m : ℕ = 2 * rules_from file (suc j) n in
      let e1 : rows (low 2) (list_in file j) ≡ take k D = low_pairs (take k D) (list_length_in file j) (list-size j (omega arith)) (taken k (list_at file j)) in
      let y : list_at file (suc j) ≡ list_at file j + k = omega arith in
      let e2 : rules_of (lists_from file (suc j) n) ≡ take m (drop k D) =
      rules_are n (suc j) (omega arith) ∙ ap (λ (i : ℕ). take m (drop i P)) y ∙ ap (take m) (sym (drop-drop k (list_at file j) P)) in
      let z : k + m ≡ 2 * (list_length_in file j + rules_from file (suc j) n) = omega arith in
      ap (λ (l : List ℕ). l ++ rules_of (lists_from file (suc j) n)) e1
      ∙ ap (λ (l : List ℕ). take k D ++ l) e2
      ∙ sym (take-add k m D)
      ∙ ap (λ (i : ℕ). take i D) z

  -- what is needed of the payload is that of the texts and lists
  module _ (h : needed_in file ≤ length (payload_in file)) where
    all-rules : rules_before file 8 ≡ rules_from file 0 8
    unfolding rules_before
    all-rules = omega (arith, rules-from file 0 8)

    payload_is : payload_of (script_in file) (response_in file) (lists_in file) ≡ take (needed_in file) (payload_in file)
    unfolding payload_of script_in response_in script_length_in response_length_in number_in rules_before
    payload_is =
        let P = payload_in file in
        let s : ℕ = script_length_in file in
        let r : ℕ = response_length_in file in
        let R : ℕ = 2 * rules_before file 8 in
        let S = take s (drop 24 P) in
        let Q = take r (drop (24 + s) P) in
        let D = take R (drop (24 + s + r) P) in
        let A = take 4 P in
        let B = take 4 (drop 4 P) in
        let C = take 16 (drop 8 P) in
        let ls : length S ≡ s = length-take-le s (drop 24 P) (omega (arith, length-drop 24 P)) in
        let lq : length Q ≡ r = length-take-le r (drop (24 + s) P) (omega (arith, length-drop (24 + s) P)) in
        let ea : low 4 (length S) ≡ A = ap (low 4) ls ∙ part_low P 4 (omega arith) bytes in
        let eb : low 4 (length Q) ≡ B = ap (low 4) lq ∙ part_low (drop 4 P) 4 (omega (arith, length-drop 4 P)) (dropped 4) in
        let ec : lengths_of (lists_in file) ≡ C = lengths_are 8 0 (omega arith) (omega (arith, all-rules)) in
        let z : list_at file 0 ≡ 24 + s + r = omega arith in
        let ed : rules_of (lists_in file) ≡ D =
        rules_are 8 0 (omega (arith, all-rules))
        ∙ ap (λ (n : ℕ). take (2 * rules_from file 0 8) (drop n P)) z
        ∙ ap (λ (n : ℕ). take (2 * n) (drop (24 + s + r) P)) (sym all-rules) in
        let e8 : A ++ B ≡ take 8 P = sym (take-add 4 4 P) in
        let e24 : take 8 P ++ C ≡ take 24 P = sym (take-add 8 16 P) in
        let es : take 24 P ++ S ≡ take (24 + s) P = sym (take-add 24 s P) in
        let eq : take (24 + s) P ++ Q ≡ take (24 + s + r) P = sym (take-add (24 + s) r P) in
        let en : take (24 + s + r) P ++ D ≡ take (24 + s + r + R) P = sym (take-add (24 + s + r) R P) in
        ap (λ (l : List ℕ). l ++ low 4 (length Q) ++ lengths_of (lists_in file) ++ S ++ Q ++ rules_of (lists_in file)) ea
        ∙ ap (λ (l : List ℕ). A ++ l ++ lengths_of (lists_in file) ++ S ++ Q ++ rules_of (lists_in file)) eb
        ∙ ap (λ (l : List ℕ). l ++ lengths_of (lists_in file) ++ S ++ Q ++ rules_of (lists_in file)) e8
        ∙ ap (λ (l : List ℕ). take 8 P ++ l ++ S ++ Q ++ rules_of (lists_in file)) ec
        ∙ ap (λ (l : List ℕ). l ++ S ++ Q ++ rules_of (lists_in file)) e24
        ∙ ap (λ (l : List ℕ). l ++ Q ++ rules_of (lists_in file)) es
        ∙ ap (λ (l : List ℕ). l ++ rules_of (lists_in file)) eq
        ∙ ap (λ (l : List ℕ). take (24 + s + r) P ++ l) ed
        ∙ en

-- the payload bytes of a file of bytes are bytes
payload_bytes : (file : List ℕ) → ((k : ℕ) → get_or file k 0 < 256) → (k : ℕ) → get_or (payload_in file) k 0 < 256
payload_bytes file bytes k = go (dec_lt (k / 510) (length file / 512))
  where
    go : Dec (k / 510 < length file / 512) → get_or (payload_in file) k 0 < 256
    go (yes y) = omega (arith, bytes (k + 2 * (k / 510)), pay_told file k y refl)
    go (no y) = omega (arith, pay_past file k (omega arith))

-- "accepts it exactly when blocks, lengths and zero filling are right, no block is spare": it is then the file of what it says
pub whole_file : (file : List ℕ) → ((k : ℕ) → get_or file k 0 < 256) → file_fault file ≡ none → file_of (script_in file) (response_in file) (lists_in file) ≡ file
unfolding file_fault misfilled filling_in filled
whole_file file bytes e =
    let P = payload_in file in
    let N : ℕ = needed_in file in
    let last : ℕ = last_needed file in
    let right = neither (first_wrong file) (misfilled file) e in
    let t = passes (ltb (length P) N) (zeros (take (510 * (last + 1) - N) (drop N P))) (ltb (510 * (last + 1)) (length P)) last right.1 in
    let fits : N ≤ length P = ltb-false (length P) N t.0 in
    let spare : length P ≤ 510 * (last + 1) = ltb-false (510 * (last + 1)) (length P) t.1.1 in
    let lp = payload_length file in
    let ld : length (drop N P) ≡ length P - N = length-drop N P in
    let all : take (510 * (last + 1) - N) (drop N P) ≡ drop N P = take_all (510 * (last + 1) - N) (drop N P) (omega arith) in
    let zs : drop N P ≡ replicate (length (drop N P)) 0 = all_zeros (drop N P) (ap zeros (sym all) ∙ t.1.0) in
    let is : payload_of (script_in file) (response_in file) (lists_in file) ≡ take N P = payload_is file (payload_bytes file bytes) fits in
    let ln : length (take N P) ≡ N = length-take-le N P fits in
    let z : length (drop N P) ≡ (510 - length (take N P) % 510) % 510 = omega arith in
    let again : P ≡ filled (take N P) =
    sym (take-append-drop N P) ∙ ap (λ (l : List ℕ). take N P ++ l) zs ∙ ap (λ (n : ℕ). take N P ++ replicate n 0) z in
    file_is file (payload_of (script_in file) (response_in file) (lists_in file)) right.0 (again ∙ ap filled (sym is))

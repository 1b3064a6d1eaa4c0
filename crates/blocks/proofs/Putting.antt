-- The loops of the writer: what each has left to write.
use mathlib.Core.Path.{◌≡◌, refl, sym, ap, ◌∙◌}
use mathlib.Core.Bool.{Bool, true, false, cond, not}
use Prim.Native.Nat.{ℕ, zero, suc, ◌+◌, ◌*◌, ◌-◌, ◌/◌, ◌%◌, ◌<◌, ◌≤◌, ◌^◌}
use native.Mathlib.Numerals.{one-add}
use native.Mathlib.Nat.{div-div-eq-div-mul, pow-suc}
use native.Mathlib.Omega.{arith}
use mathlib.Core.List.{List, [], ◌∷◌, ◌++◌}
use lib.Dec.{eqb}
use lib.ListN.{drop, drop_of_length-le, get_or, length, length-take, replicate, take}
use Rattle.std.specs.List.{prefix_len, take_while}
use Rattle.std.specs.Int.{bytes_low_first, to_le_bytes, w64}
use Rattle.forest.specs.Tables.{rows}
use Rattle.forest.proofs.Lists.{drop_next}
use Rattle.blocks.specs.declared.Place.{Place}
use Rattle.blocks.specs.Blocks.{low}
use Rattle.blocks.specs.code.Lists.{lengths_of, rules_in, rules_of}
use Rattle.blocks.specs.code.Shown.{list_shown, lists_shown, lists_shown_from, rules_shown}
use Rattle.blocks.specs.code.Places.{Fitting, Written}
use Rattle.blocks.proofs.Cursor.{Going, go_as, go_end, go_fits, go_on, go_start}

-- ---- the bytes of a number

-- those behind the first i
low_rest : (size k i n : ℕ) → size ≤ k → take size (bytes_low_first (suc i) k n) ≡ low size (n / 256 ^ suc i)
low_rest zero k i n h = refl
low_rest (suc size) zero i n h = absurd (omega arith)
low_rest (suc size) (suc k) i n h =
    let e : n / 256 ^ suc (suc i) ≡ n / 256 ^ suc i / 256 = ap (λ (m : ℕ). n / m) (pow-suc 256 (suc i)) ∙ sym (div-div-eq-div-mul n (256 ^ suc i) 256) in
    ap (λ (l : List ℕ). n / 256 ^ suc i % 256 ∷ l) (low_rest size k (suc i) n (omega arith) ∙ ap (low size) e)

pub low_bytes : (size n : ℕ) → size ≤ 8 → take size (to_le_bytes w64 n) ≡ low size n
low_bytes zero n h = refl
low_bytes (suc size) n h = ap (λ (l : List ℕ). n % 256 ∷ l) (low_rest size 7 0 n (omega arith))

-- ---- bytes

pub record Bytes (start : Place) (bytes lent : List ℕ) (place : Place) (i : ℕ) (area : List ℕ) : Type 0 where
  pub going : Going start bytes lent place (drop i bytes) area

pub bytes_start : {start : Place} {bytes lent : List ℕ} → Fitting start bytes lent → Bytes start bytes lent start 0 lent
bytes_start o = record { going = go_start o }

module _ {start place : Place} {bytes lent area : List ℕ} {i : ℕ} (v : Bytes start bytes lent place i area) where
  pub bytes_fit : i < length bytes → Fitting place (get_or bytes i 0 ∷ []) area
  bytes_fit h = go_fits v.going (drop (i + 1) bytes) (drop_next bytes i h)

  pub bytes_on : i < length bytes → {area' : List ℕ} {place' : Place} → Written place (get_or bytes i 0 ∷ []) area area' place'
      → Bytes start bytes lent place' (i + 1) area'
  bytes_on h w = record { going = go_on v.going (drop_next bytes i h) w }

  pub bytes_end : length bytes ≤ i → Written start bytes lent area place
  bytes_end h = go_end (go_as v.going (drop_of_length-le bytes h))

-- ---- zeros

pub record Zeros (start : Place) (count : ℕ) (lent : List ℕ) (place : Place) (i : ℕ) (area : List ℕ) : Type 0 where
  pub going : Going start (replicate count 0) lent place (replicate (count - i) 0) area

pub zeros_start : {start : Place} {count : ℕ} {lent : List ℕ} → Fitting start (replicate count 0) lent → Zeros start count lent start 0 lent
zeros_start {start} {count} o =
    let z : count ≡ count - 0 = omega arith in record { going = go_as (go_start o) (ap (λ (n : ℕ). replicate n 0) z) }

module _ {start place : Place} {count : ℕ} {lent area : List ℕ} {i : ℕ} (v : Zeros start count lent place i area) where
  zeros_next : i < count → replicate {A = ℕ} (count - i) 0 ≡ 0 ∷ replicate (count - (i + 1)) 0
  zeros_next h = let z : count - i ≡ suc (count - (i + 1)) = omega arith in ap (λ (n : ℕ). replicate n 0) z

  pub zeros_fit : i < count → Fitting place (0 ∷ []) area
  zeros_fit h = go_fits v.going (replicate (count - (i + 1)) 0) (zeros_next h)

  pub zeros_on : i < count → {area' : List ℕ} {place' : Place} → Written place (0 ∷ []) area area' place' → Zeros start count lent place' (i + 1) area'
  zeros_on h w = record { going = go_on v.going (zeros_next h) w }

  pub zeros_end : count ≤ i → Written start (replicate count 0) lent area place
  zeros_end h = let z : count - i ≡ 0 = omega arith in go_end (go_as v.going (ap (λ (n : ℕ). replicate n 0) z))

-- ---- the rules of a list

pub record Rules (start : Place) (rules lent : List ℕ) (place : Place) (i : ℕ) (area : List ℕ) : Type 0 where
  pub going : Going start (rows (low 2) rules) lent place (rows (low 2) (drop i rules)) area

pub rules_start : {start : Place} {rules lent : List ℕ} → Fitting start (rows (low 2) rules) lent → Rules start rules lent start 0 lent
rules_start o = record { going = go_start o }

module _ {start place : Place} {rules lent area : List ℕ} {i : ℕ} (v : Rules start rules lent place i area) where
  module _ (h : i < length rules) {n : ℕ} (en : n ≡ get_or rules i 0) where
    rules_next : rows (low 2) (drop i rules) ≡ low 2 n ++ rows (low 2) (drop (i + 1) rules)
    unfolding rows
    rules_next = ap (rows (low 2)) (drop_next rules i h) ∙ ap (λ (m : ℕ). low 2 m ++ rows (low 2) (drop (i + 1) rules)) (sym en)

    pub rules_fit : Fitting place (low 2 n) area
    rules_fit = go_fits v.going (rows (low 2) (drop (i + 1) rules)) rules_next

    pub rules_on : {area' : List ℕ} {place' : Place} → Written place (low 2 n) area area' place' → Rules start rules lent place' (i + 1) area'
    rules_on w = record { going = go_on v.going rules_next w }

  pub rules_end : length rules ≤ i → Written start (rows (low 2) rules) lent area place
  unfolding rows
  rules_end h = go_end (go_as v.going (ap (rows (low 2)) (drop_of_length-le rules h)))

-- ---- how many rules a list has

pub shown_while : (l : List ℕ) → take_while (λ rule. not (eqb rule 65535)) l ≡ rules_shown l
unfolding rules_shown
shown_while [] = refl
shown_while (x ∷ l) = go (eqb x 65535) (shown_while l)
  where
    go : (t : Bool) → take_while (λ rule. not (eqb rule 65535)) l ≡ rules_shown l
        → take (cond (not t) (1 + prefix_len (λ rule. not (eqb rule 65535)) l) 0) (x ∷ l) ≡ cond t [] (x ∷ rules_shown l)
    go true e = refl
    go false e = rw one-add (ap (λ (m : List ℕ). x ∷ m) e)

-- the rules are the first entries
shown_first : (l : List ℕ) → take (length (rules_shown l)) l ≡ rules_shown l
unfolding rules_shown
shown_first [] = refl
shown_first (x ∷ l) = go (eqb x 65535) (shown_first l)
  where
    go : (t : Bool) → take (length (rules_shown l)) l ≡ rules_shown l → take (length (cond t [] (x ∷ rules_shown l))) (x ∷ l) ≡ cond t [] (x ∷ rules_shown l)
    go true e = refl
    go false e = ap (λ (m : List ℕ). x ∷ m) e

shown_short : (l : List ℕ) → length (rules_shown l) ≤ length l
unfolding rules_shown
shown_short [] = omega arith
shown_short (x ∷ l) = go (eqb x 65535) (shown_short l)
  where
    go : (t : Bool) → length (rules_shown l) ≤ length l → length (cond t [] (x ∷ rules_shown l)) ≤ suc (length l)
    go true e = omega arith
    go false e = omega arith

pub list_short : (shown : List ℕ) (j : ℕ) → length (list_shown shown j) ≤ 4096
unfolding list_shown
list_short shown j = omega (arith, shown_short (take 4096 (drop (4096 * j) shown)), length-take 4096 (drop (4096 * j) shown))

-- the entries of a list that are used are the list
module _ (shown : List ℕ) (j : ℕ) {entries : List ℕ} (is : entries ≡ take 4096 (drop (4096 * j) shown)) {count : ℕ}
    (used : count ≡ length (take_while (λ entry. not (eqb entry 65535)) entries)) where
  pub used_are : take count entries ≡ list_shown shown j
  unfolding list_shown
  used_are = ap (λ (n : ℕ). take n entries) (used ∙ ap length (shown_while entries)) ∙ shown_first entries ∙ ap rules_shown is

-- ---- the eight lists

eight_next : (shown : List ℕ) (j : ℕ) → j < 8 → lists_shown_from shown j (8 - j) ≡ list_shown shown j ∷ lists_shown_from shown (j + 1) (8 - (j + 1))
unfolding lists_shown_from
eight_next shown j h = let z : 8 - j ≡ suc (8 - (j + 1)) = omega arith in ap (lists_shown_from shown j) z

eight_end : (shown : List ℕ) (j : ℕ) → 8 ≤ j → lists_shown_from shown j (8 - j) ≡ []
unfolding lists_shown_from
eight_end shown j h = let z : 8 - j ≡ 0 = omega arith in ap (lists_shown_from shown j) z

-- their lengths
pub record Lengths (start : Place) (shown lent : List ℕ) (place : Place) (j : ℕ) (area : List ℕ) : Type 0 where
  pub going : Going start (lengths_of (lists_shown shown)) lent place (lengths_of (lists_shown_from shown j (8 - j))) area

pub lengths_start : {start : Place} {shown lent : List ℕ} → Fitting start (lengths_of (lists_shown shown)) lent → Lengths start shown lent start 0 lent
lengths_start o = record { going = go_start o }

module _ {start place : Place} {shown lent area : List ℕ} {j : ℕ} (v : Lengths start shown lent place j area) where
  module _ (h : j < 8) {list : List ℕ} (is : list ≡ list_shown shown j) where
    lengths_next : lengths_of (lists_shown_from shown j (8 - j)) ≡ low 2 (length list) ++ lengths_of (lists_shown_from shown (j + 1) (8 - (j + 1)))
    unfolding rows
    lengths_next =
        ap lengths_of (eight_next shown j h) ∙ ap (λ (l : List ℕ). low 2 (length l) ++ lengths_of (lists_shown_from shown (j + 1) (8 - (j + 1)))) (sym is)

    pub lengths_fit : Fitting place (low 2 (length list)) area
    lengths_fit = go_fits v.going (lengths_of (lists_shown_from shown (j + 1) (8 - (j + 1)))) lengths_next

    pub lengths_on : {area' : List ℕ} {place' : Place} → Written place (low 2 (length list)) area area' place' → Lengths start shown lent place' (j + 1) area'
    lengths_on w = record { going = go_on v.going lengths_next w }

  pub lengths_end : 8 ≤ j → Written start (lengths_of (lists_shown shown)) lent area place
  unfolding rows
  lengths_end h = go_end (go_as v.going (ap lengths_of (eight_end shown j h)))

-- their rules
pub record Lists (start : Place) (shown lent : List ℕ) (place : Place) (j : ℕ) (area : List ℕ) : Type 0 where
  pub going : Going start (rules_of (lists_shown shown)) lent place (rules_of (lists_shown_from shown j (8 - j))) area

pub lists_start : {start : Place} {shown lent : List ℕ} → Fitting start (rules_of (lists_shown shown)) lent → Lists start shown lent start 0 lent
lists_start o = record { going = go_start o }

module _ {start place : Place} {shown lent area : List ℕ} {j : ℕ} (v : Lists start shown lent place j area) where
  module _ (h : j < 8) {list : List ℕ} (is : list ≡ list_shown shown j) where
    lists_next : rules_of (lists_shown_from shown j (8 - j)) ≡ rows (low 2) list ++ rules_of (lists_shown_from shown (j + 1) (8 - (j + 1)))
    unfolding rows
    lists_next =
        ap rules_of (eight_next shown j h) ∙ ap (λ (l : List ℕ). rows (low 2) l ++ rules_of (lists_shown_from shown (j + 1) (8 - (j + 1)))) (sym is)

    pub lists_fit : Fitting place (rows (low 2) list) area
    lists_fit = go_fits v.going (rules_of (lists_shown_from shown (j + 1) (8 - (j + 1)))) lists_next

    pub lists_on : {area' : List ℕ} {place' : Place} → Written place (rows (low 2) list) area area' place' → Lists start shown lent place' (j + 1) area'
    lists_on w = record { going = go_on v.going lists_next w }

  pub lists_end : 8 ≤ j → Written start (rules_of (lists_shown shown)) lent area place
  unfolding rows
  lists_end h = go_end (go_as v.going (ap rules_of (eight_end shown j h)))

-- how many rules they have
pub record Summed (shown : List ℕ) (rules j : ℕ) : Type 0 where
  pub low : rules ≤ 4096 * j
  pub is : rules + rules_in (lists_shown_from shown j (8 - j)) ≡ rules_in (lists_shown shown)

pub sum_start : {shown : List ℕ} → Summed shown 0 0
sum_start = record { low = omega arith; is = omega arith }

module _ {shown : List ℕ} {rules j : ℕ} (v : Summed shown rules j) where
  pub sum_more : j < 8 → {list : List ℕ} → list ≡ list_shown shown j → Summed shown (rules + length list) (j + 1)
  unfolding rules_in
  sum_more h is =
      let e = ap rules_in (eight_next shown j h) in
      let l = ap length is in
      record { low = omega (arith, v.low, list_short shown j); is = omega (arith, v.is) }

  pub sum_end : 8 ≤ j → rules ≡ rules_in (lists_shown shown)
  unfolding rules_in
  sum_end h = let e = ap rules_in (eight_end shown j h) in omega (arith, v.is)

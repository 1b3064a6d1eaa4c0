-- The names in the table, by its rows.
use Prim.Native.Nat.{ℕ, suc, ◌+◌, ◌-◌, ◌≤◌, ◌<◌, ◌/◌, ◌%◌}
use native.Mathlib.Numerals.{unary_clauses}
use native.Mathlib.Omega.{arith}
use mathlib.Core.Path.{◌≡◌, refl, sym, ◌∙◌}
use mathlib.Core.Bool.{Bool, true, false, cond}
use mathlib.Core.List.{List, ◌++◌}
use lib.ListN.{drop, get_or, length, replicate, set, drop_of_length-le, get_or-append, get_or-replicate, length-append, length-replicate, length-set}
use lib.Seq.{get_or-append-add, sets}
use Rattle.forest.proofs.Lists.{drop_next}
use Rattle.forest.specs.Lists.{same_bytes}
use Rattle.forest.specs.Search.{place_in}
use Rattle.names.specs.code.Table.{longest, name_in, name_row, names_from}

-- The names from a place on, of so many from a row on, decide the place of a word among all of them.
pub record Searching (names word : List ℕ) (first count place : ℕ) : Type 0 where
  pub passed : place ≤ count
  pub left : place_in (names_from names (first + place) (count - place)) place word ≡ place_in (names_from names first count) 0 word

module _ {names word : List ℕ} {first count place : ℕ} (w : Searching names word first count place) where
  module _ (h : place < count) where
    -- the name at a place decides whether the word's place is that one or one after it
    choice : cond (same_bytes (name_in names (first + place)) word) place (place_in (names_from names (first + (place + 1)) (count - (place + 1))) (place + 1) word)
        ≡ place_in (names_from names first count) 0 word
    unfolding place_in names_from
    choice =
        let more : count - place ≡ suc (count - (place + 1)) = omega arith in
        let next : first + place + 1 ≡ first + (place + 1) = omega arith in
        rw next at (rw more at w.left)

    -- the word is the name there
    pub found : {t : Bool} → t ≡ same_bytes (name_in names (first + place)) word → t ≡ true → place ≡ place_in (names_from names first count) 0 word
    found e q = let z : same_bytes (name_in names (first + place)) word ≡ true = cc in rw z at choice

    -- the word is not the name there
    pub passed_by : {t : Bool} → t ≡ same_bytes (name_in names (first + place)) word → t ≡ false → Searching names word first count (place + 1)
    passed_by e q = let z : same_bytes (name_in names (first + place)) word ≡ false = cc in record { passed = omega arith; left = rw z at choice }

  -- the word is none of the names
  pub not_found : count ≤ place → count ≡ place_in (names_from names first count) 0 word
  unfolding place_in names_from
  not_found k =
      let none : count - place ≡ 0 = omega arith in
      let all : count ≡ place = omega (arith, w.passed) in
      all ∙ rw none at w.left

-- A name with zeros behind it.
abbrev pub padded : (word : List ℕ) → List ℕ
padded word = word ++ replicate (longest - length word) 0

-- The first k bytes of a name and its zeros are written behind the first four bytes of its row.
pub record Writing (before word names : List ℕ) (at k : ℕ) : Type 0 where
  pub long : length names ≡ length before
  pub passed : k ≤ longest
  pub left : sets names (at + 4 + k) (drop k (padded word)) ≡ sets before (at + 4) (padded word)

-- Nothing is written at first.
pub unwritten : (before word : List ℕ) (at : ℕ) → Writing before word before at 0
unwritten before word at = record { long = refl; passed = omega arith; left = simp unary_clauses }

module _ (word : List ℕ) (short : length word ≤ longest) where
  -- a name and its zeros together
  padded_long : length (padded word) ≡ longest
  padded_long = rw (length-append, length-replicate) (omega arith)

  module _ {before names : List ℕ} {at k : ℕ} (w : Writing before word names at k) where
    -- one byte more
    write : k < longest → (b : ℕ) → b ≡ get_or (padded word) k 0 → Writing before word (set names (at + 4 + k) b) at (k + 1)
    write h b e =
        let l : k < length (padded word) = omega (arith, padded_long) in
        let next : at + 4 + (k + 1) ≡ suc (at + 4 + k) = omega arith in
        record { long = length-set names _ b ∙ w.long; passed = omega arith; left = rw next (rw e (rw (drop_next (padded word) k) at w.left)) }

    -- a byte of the name
    pub name_byte : k < longest → (b : ℕ) → k < length word → b ≡ get_or word k 0 → Writing before word (set names (at + 4 + k) b) at (k + 1)
    name_byte h b l e = write h b (e ∙ sym (get_or-append word (replicate (longest - length word) 0) 0 k l))

    -- a zero behind it
    pub zero_byte : k < longest → (b : ℕ) → length word ≤ k → b ≡ 0 → Writing before word (set names (at + 4 + k) b) at (k + 1)
    zero_byte h b l e =
        let n : k ≡ length word + (k - length word) = omega arith in
        write h b (e ∙ rw n (rw (get_or-append-add word) (sym (get_or-replicate (longest - length word) (k - length word) 0 0 (omega arith)))))

    -- all is written
    pub written : longest ≤ k → names ≡ sets before (at + 4) (padded word)
    written h = let l : length (padded word) ≤ k = omega (arith, padded_long) in rw (drop_of_length-le (padded word) l) at w.left

-- A row is written whole.
pub row_written : (before word : List ℕ) (at sort place : ℕ)
    → sets (set (set (set (set before at sort) (at + 1) (place % 256)) (at + 2) (place / 256)) (at + 3) (length word)) (at + 4) (padded word)
    ≡ sets before at (name_row sort place word)
row_written before word at sort place =
    let one : at + 1 ≡ suc at = omega arith in
    let two : at + 2 ≡ suc (suc at) = omega arith in
    let three : at + 3 ≡ suc (suc (suc at)) = omega arith in
    let four : at + 4 ≡ suc (suc (suc (suc at))) = omega arith in
    rw (one, two, three, four)

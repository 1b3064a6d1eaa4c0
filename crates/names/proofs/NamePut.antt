-- A name that is put into a row of the table: what that row holds, and that the other rows hold what they held.
use Prim.Native.Nat.{ℕ, zero, suc, ◌+◌, ◌-◌, ◌*◌, ◌≤◌, ◌<◌}
use native.Mathlib.Omega.{arith}
use mathlib.Core.Path.{◌≡◌, refl, sym, ap, ap₂, ◌∙◌, subst}
use mathlib.Core.Bool.{Bool, true, false}
use mathlib.Core.Logic.{◌⊎◌, inl, inr}
use mathlib.Core.List.{List, [], ◌∷◌, ◌++◌, append_assoc}
use lib.ListN.{drop, get_or, length, replicate, take, length-append, length-drop, length-replicate, take-append-drop, get_or-append}
use lib.Seq.{drop-append-add, drop-append-le, drop_at, drop-drop, get_or-drop, length-sets, length-take-le, sets, sets-eq, take-append-le, take-append_seam}
use lib.Dec.{eqb, ltb}
use borrow.Author.Tests.{eqb-false, eqb-true, ltb-false, ltb-true}
use Rattle.operators.specs.Sorts.{max_width}
use Rattle.names.specs.Scopes.{View, named_sorts}
use Rattle.names.specs.code.Lookup.{Kept, Names, SameRows, Sees}
use Rattle.names.specs.code.Table.{
  declared_from,
  length_in,
  longest,
  name_in,
  name_row,
  names_from,
  row_count,
  row_width,
  sort_in,
  sorts_from,
  word_in,
  words_told,
}
use Rattle.names.specs.declared.Seen.{Seen}

-- Two tables hold the same in row k.
pub record SameRow (one other : List ℕ) (k : ℕ) : Type 0 where
  pub size : length_in one k ≡ length_in other k
  pub name : name_in one k ≡ name_in other k
  pub sort : sort_in one k ≡ sort_in other k
  pub word : word_in one k ≡ word_in other k

-- Tables that hold the same in each of some rows.
pub same_rows : {one other : List ℕ} (r m : ℕ) → ((k : ℕ) → r ≤ k → k < r + m → SameRow one other k) → SameRows one other r m
unfolding declared_from names_from sorts_from
same_rows r zero each = record { names = refl; sorts = refl; declared = refl }
same_rows r (suc m) each =
    let here = each r (omega arith) (omega arith) in
    let rest = same_rows (r + 1) m (λ k l h. each k (omega arith) (omega arith)) in
    record {
      names = ap₂ ◌∷◌ here.name rest.names;
      sorts = ap₂ ◌∷◌ here.sort rest.sorts;
      declared = ap₂ ◌∷◌ (ap₂ (λ (n : List ℕ) (w : ℕ). record { name = n; at = w }) here.name here.word) rest.declared;
    }

-- What n + 1 rows from row r on hold is what n rows hold and what the row behind them does.
pub record LastRow (names : List ℕ) (r n : ℕ) : Type 0 where
  pub name : names_from names r (n + 1) ≡ names_from names r n ++ name_in names (r + n) ∷ []
  pub sort : sorts_from names r (n + 1) ≡ sorts_from names r n ++ sort_in names (r + n) ∷ []
  pub declared : declared_from names r (n + 1) ≡ declared_from names r n ++ record { name = name_in names (r + n); at = word_in names (r + n) } ∷ []

-- Every table.
pub last_row : (names : List ℕ) (r n : ℕ) → LastRow names r n
unfolding declared_from names_from sorts_from
last_row names r zero = let z : r + 0 ≡ r = omega arith in record { name = rw z; sort = rw z; declared = rw z }
last_row names r (suc n) =
    let z : r + suc n ≡ r + 1 + n = omega arith in
    let later = last_row names (r + 1) n in
    let one : suc n + 1 ≡ suc (n + 1) = omega arith in
    record {
      name = rw (one, z) (ap (◌∷◌ (name_in names r)) later.name);
      sort = rw (one, z) (ap (◌∷◌ (sort_in names r)) later.sort);
      declared = rw (one, z) (ap (◌∷◌ (record { name = name_in names r; at = word_in names r })) later.declared);
    }

-- Tables that begin alike hold the same in the rows of that beginning, where the name is not too long.
same_front : (front one other : List ℕ) (k : ℕ) → row_width * k + row_width ≤ length front → length_in (front ++ other) k ≤ longest
    → SameRow (front ++ one) (front ++ other) k
same_front front one other k h short = record {
  size = read (row_width * k + 3) (omega arith);
  name = rw (read (row_width * k + 3) (omega arith)) (part (row_width * k + 4) (length_in (front ++ other) k) (omega arith));
  sort = read (row_width * k) (omega arith);
  word = ap₂ (λ (low high : ℕ). low + 256 * high) (read (row_width * k + 1) (omega arith)) (read (row_width * k + 2) (omega arith));
}
  where
    read : (i : ℕ) → i < length front → get_or (front ++ one) i 0 ≡ get_or (front ++ other) i 0
    read i l = get_or-append front one 0 i l ∙ sym (get_or-append front other 0 i l)

    cut : (rest : List ℕ) (i n : ℕ) → i + n ≤ length front → take n (drop i (front ++ rest)) ≡ take n (drop i front)
    cut rest i n l = ap (take n) (drop-append-le i front rest (omega arith)) ∙ take-append-le n (drop i front) rest (rw length-drop (omega arith))

    part : (i n : ℕ) → i + n ≤ length front → take n (drop i (front ++ one)) ≡ take n (drop i (front ++ other))
    part i n l = cut one i n l ∙ sym (cut other i n l)

-- Tables that are the same from a row on hold the same in it.
same_behind : {one other : List ℕ} (k : ℕ) → drop (row_width * k) one ≡ drop (row_width * k) other → SameRow one other k
same_behind {one} {other} k e = record {
  size = read 3;
  name = ap₂ take (read 3) (sym (drop-drop 4 (row_width * k) one) ∙ ap (drop 4) e ∙ drop-drop 4 (row_width * k) other);
  sort = let z : row_width * k + 0 ≡ row_width * k = omega arith in rw z at (read 0);
  word = ap₂ (λ (low high : ℕ). low + 256 * high) (read 1) (read 2);
}
  where
    read : (i : ℕ) → get_or one (row_width * k + i) 0 ≡ get_or other (row_width * k + i) 0
    read i = sym (get_or-drop (row_width * k) one i 0) ∙ ap (λ (l : List ℕ). get_or l i 0) e ∙ get_or-drop (row_width * k) other i 0

-- The sorts in some rows of a table are at most 64 wide.
pub sorts_narrow : {names : List ℕ} → Names names → (r n : ℕ) → r + n ≤ row_count → (k : ℕ) → get_or (sorts_from names r n) k 0 ≤ max_width
unfolding sorts_from
sorts_narrow t r zero h k = omega arith
sorts_narrow t r (suc n) h zero = t.narrow r (omega arith)
sorts_narrow t r (suc n) h (suc k) = sorts_narrow t (r + 1) n (omega arith) k

-- So are those of the names that a view has.
pub seen_narrow : {names : List ℕ} {seen : Seen} {view : View} → Sees names seen view → (k : ℕ) → get_or (named_sorts view.names) k 0 ≤ max_width
seen_narrow {seen = seen} s k = rw (← s.sorts_are) (sorts_narrow s.table seen.first seen.names s.names_fit k)

-- A name, its sort and the word at which it is declared stand in a row, and the other rows are what they were.
pub record Put (names : List ℕ) (row sort at : ℕ) (word after : List ℕ) : Type 0 where
  pub table : Names after
  pub name : name_in after row ≡ word
  pub sort_is : sort_in after row ≡ sort
  pub word_is : word_in after row ≡ at
  pub kept : Kept names row 1 after

module _ {names : List ℕ} (t : Names names) {row : ℕ} (h : row < row_count) (sort at : ℕ) (word : List ℕ) (short : length word ≤ longest)
    (narrow : sort ≤ max_width) (low : at < words_told) {after : List ℕ} (e : after ≡ sets names (row_width * row) (name_row sort at word)) where
  -- how long the row is
  row_long : length (name_row sort at word) ≡ row_width
  row_long = let l : length (word ++ replicate (longest - length word) 0) ≡ longest = rw (length-append, length-replicate) (omega arith) in omega arith

  -- and the table before it
  front_long : length (take (row_width * row) names) ≡ row_width * row
  front_long = let s = t.sized in length-take-le (row_width * row) names (omega arith)

  -- the table in parts
  parts : after ≡ take (row_width * row) names ++ (name_row sort at word ++ drop (row_width * row + row_width) names)
  parts =
      let s = t.sized in
      let l = row_long in
      e
      ∙ sets-eq (name_row sort at word) names (row_width * row) (omega arith)
      ∙ rw l (append_assoc (take (row_width * row) names) (name_row sort at word) (drop (row_width * row + row_width) names))

  -- the table from the row on
  from_row : drop (row_width * row) after ≡ name_row sort at word ++ drop (row_width * row + row_width) names
  from_row = ap (drop (row_width * row)) parts ∙ drop_at (take (row_width * row) names) _ (row_width * row) front_long

  -- and from a later place on
  from_behind : (i : ℕ) → drop (row_width * row + (row_width + i)) after ≡ drop (row_width * row + (row_width + i)) names
  from_behind i =
      let z : length (name_row sort at word) + i ≡ row_width + i = ap (λ (n : ℕ). n + i) row_long in
      let y : row_width * row + row_width + i ≡ row_width * row + (row_width + i) = omega arith in
      sym (drop-drop (row_width + i) (row_width * row) after)
      ∙ ap (drop (row_width + i)) from_row
      ∙ ap (λ (n : ℕ). drop n (name_row sort at word ++ drop (row_width * row + row_width) names)) (sym z)
      ∙ drop-append-add (name_row sort at word) (drop (row_width * row + row_width) names) i
      ∙ drop-drop i (row_width * row + row_width) names
      ∙ ap (λ (n : ℕ). drop n names) y

  -- byte i from the row's first on
  byte_in : (i : ℕ) → get_or after (row_width * row + i) 0 ≡ get_or (name_row sort at word ++ drop (row_width * row + row_width) names) i 0
  byte_in i = sym (get_or-drop (row_width * row) after i 0) ∙ ap (λ (l : List ℕ). get_or l i 0) from_row

  -- the row holds the name
  name_put : name_in after row ≡ word
  name_put =
      ap₂ take (byte_in 3) (sym (drop-drop 4 (row_width * row) after) ∙ ap (drop 4) from_row)
      ∙ ap (take (length word)) (append_assoc word (replicate (longest - length word) 0) (drop (row_width * row + row_width) names))
      ∙ take-append_seam word _

  -- the rows before it hold what they held
  before_same : (k : ℕ) → k < row → SameRow after names k
  before_same k l =
      let whole = take-append-drop (row_width * row) names in
      let small = t.short k (omega arith) in
      let long = front_long in
      rw parts (subst (λ (other : List ℕ). SameRow (take (row_width * row) names ++ (name_row sort at word ++ drop (row_width * row + row_width) names)) other k) whole
      (same_front (take (row_width * row) names) _ (drop (row_width * row) names) k (omega arith) (rw whole small)))

  -- and so do the rows behind it
  behind_same : (k : ℕ) → row + 1 ≤ k → SameRow after names k
  behind_same k l =
      let z : row_width * row + (row_width + (row_width * k - (row_width * row + row_width))) ≡ row_width * k = omega arith in
      same_behind k (rw z at (from_behind (row_width * k - (row_width * row + row_width))))

  -- all of them
  kept : Kept names row 1 after
  kept = record {
    rows_before = λ r m l. same_rows r m (λ k a b. before_same k (omega arith));
    rows_behind = λ r m l. same_rows r m (λ k a b. behind_same k (omega arith));
  }

  -- the row holds the sort
  sort_put : sort_in after row ≡ sort
  sort_put = let z : row_width * row + 0 ≡ row_width * row = omega arith in rw z at (byte_in 0)

  -- the row holds the word
  word_put : word_in after row ≡ at
  word_put = ap₂ (λ (low high : ℕ). low + 256 * high) (byte_in 1) (byte_in 2) ∙ omega arith

  -- a row is that one, or holds what it held
  row_or_same : (r : ℕ) → (r ≡ row) ⊎ SameRow after names r
  row_or_same r = go (eqb r row) refl (ltb r row) refl
    where
      go : (here : Bool) → eqb r row ≡ here → (early : Bool) → ltb r row ≡ early → (r ≡ row) ⊎ SameRow after names r
      go true x early y = inl (eqb-true r row x)
      go false x true y = inr (before_same r (ltb-true r row y))
      go false x false y =
          let z = eqb-false r row x in
          let w = ltb-false r row y in
          inr (behind_same r (omega arith))

  -- no name is too long
  lengths : (r : ℕ) → r < row_count → length_in after r ≤ longest
  lengths r l = go (row_or_same r)
    where
      go : (r ≡ row) ⊎ SameRow after names r → length_in after r ≤ longest
      go (inl z) = rw (z, byte_in 3) short
      go (inr same) = rw same.size (t.short r l)

  -- no sort is too wide
  sorts : (r : ℕ) → r < row_count → sort_in after r ≤ max_width
  sorts r l = go (row_or_same r)
    where
      go : (r ≡ row) ⊎ SameRow after names r → sort_in after r ≤ max_width
      go (inl z) = rw (z, sort_put) narrow
      go (inr same) = rw same.sort (t.narrow r l)

  -- the name, its sort and its word are put into the row
  pub put-row : Put names row sort at word after
  put-row = record {
    table = record {
      sized = ap length e ∙ length-sets names (row_width * row) (name_row sort at word) ∙ t.sized;
      short = lengths;
      narrow = sorts;
    };
    name = name_put;
    sort_is = sort_put;
    word_is = word_put;
    kept = kept;
  }

-- Rows that two changes leave what they were.
pub same_through : {names between after : List ℕ} {r m : ℕ} → SameRows between names r m → SameRows after between r m → SameRows after names r m
same_through one other =
    record { names = other.names ∙ one.names; sorts = other.sorts ∙ one.sorts; declared = other.declared ∙ one.declared }

-- No row is changed.
pub kept_none : (names : List ℕ) (row : ℕ) → Kept names row 0 names
kept_none names row = record { rows_before = λ r m h. unchanged r m; rows_behind = λ r m h. unchanged r m }
  where
    unchanged : (r m : ℕ) → SameRows names names r m
    unchanged r m = record { names = refl; sorts = refl; declared = refl }

-- One row more is changed.
pub kept_more : {names between after : List ℕ} {row n : ℕ} → Kept names row n between → Kept between (row + n) 1 after → Kept names row (n + 1) after
kept_more a b = record {
  rows_before = λ r m h. same_through (a.rows_before r m h) (b.rows_before r m (omega arith));
  rows_behind = λ r m h. same_through (a.rows_behind r m (omega arith)) (b.rows_behind r m (omega arith));
}

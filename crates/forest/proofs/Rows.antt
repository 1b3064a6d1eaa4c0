-- Laws of tables, for rows of any width: reading a number, writing one, and adding a row.
use Prim.Native.Nat.{ℕ, suc, ◌+◌, ◌*◌, ◌/◌, ◌≤◌, ◌<◌}
use native.Mathlib.Nat.{add-zero, le-div_iff_mul-le, mul_comm, mul-le-mul_right, mul-suc, mul-zero, suc-add, zero-add}
use native.Mathlib.Omega.{arith}
use mathlib.Core.Path.{◌≡◌, refl, sym, ap, ◌∙◌}
use mathlib.Core.List.{List, [], ◌∷◌, ◌++◌, append_assoc}
use lib.ListN.{length, get_or, drop, take, set, length-append, length-drop, take-append-drop, get_or-append, get_or-eq_default}
use lib.Seq.{sets, sets-eq, get_or-append-add, take-append_seam, drop-append-add, drop-drop, length-take-le, set-append_left}
use Rattle.forest.specs.code.Rows.{number_at, widest}
use Rattle.forest.specs.Tables.{rows, over}
use Rattle.forest.proofs.Lists.{within}

set_append_add : {A : Type 0} (xs ys : List A) (n : ℕ) (v : A) → set (xs ++ ys) (length xs + n) v ≡ xs ++ set ys n v
set_append_add [] ys n v = rw zero-add
set_append_add (x ∷ xs) ys n v = rw (suc-add, set_append_add xs ys n v)

-- a row and a column of it, by the row alone: no lower than it, and below as many rows of the greatest width
pub row_low : (width row column : ℕ) → column < width → row ≤ width * row + column
row_low width row column h = let one : 1 ≤ width = omega arith in omega (arith, mul-le-mul_right row one)

pub row_high : (width row column : ℕ) → column < width → width ≤ widest → width * row + column < widest * (row + 1)
row_high width row column h w = omega (arith, mul-le-mul_right row w)

-- a column of a row that a table has whole stands in it
pub row_within : (width row column long : ℕ) → column < width → row < long / width → width * row + column < long
row_within width row column long h below =
    let some : 0 < width = omega arith in
    let up : suc row ≤ long / width = omega arith in
    omega (arith, (le-div_iff_mul-le {k = width} {x = suc row} {y = long} some).0 up, mul_comm (suc row) width, mul-suc width row)

-- past the end of a table
pub past : (width : ℕ) (table : List ℕ) (i column : ℕ) → length table ≤ width * i + column → 0 ≡ number_at width table i column
unfolding number_at
past width table i column h = sym (get_or-eq_default table 0 h)

-- numbers that are written behind others
pub sets_append : (l : List ℕ) (i : ℕ) (vs ws : List ℕ) → sets l i (vs ++ ws) ≡ sets (sets l i vs) (i + length vs) ws
sets_append l i [] ws = ap (λ (k : ℕ). sets l k ws) (sym (add-zero i))
sets_append l i (a ∷ vs) ws =
    let e : suc i + length vs ≡ i + suc (length vs) = omega arith in
    sets_append (set l i a) (suc i) vs ws ∙ ap (λ (k : ℕ). sets (sets (set l i a) (suc i) vs) k ws) e

-- numbers that are written behind those that are over what was lent already
pub over_more : (xs ys lent : List ℕ) → length xs + length ys ≤ length lent → sets (over xs lent) (length xs) ys ≡ over (xs ++ ys) lent
over_more xs ys lent h =
    let l : length (xs ++ drop (length xs) lent) ≡ length lent = simp (length-append, length-drop) (omega arith) in
    sets-eq ys (xs ++ drop (length xs) lent) (length xs) (omega arith)
    ∙ rw (take-append_seam, drop-append-add xs (drop (length xs) lent) (length ys), length-append) (go (length xs) (length ys))
  where
    go : (n m : ℕ) → xs ++ ys ++ drop m (drop n lent) ≡ xs ++ ys ++ drop (n + m) lent
    go n m = rw (drop-drop m n lent)

module _ {A : Type 0} (row : A → List ℕ) (width : ℕ) (wide : (a : A) → length (row a) ≡ width) where
  pub rows_append : (xs ys : List A) → rows row (xs ++ ys) ≡ rows row xs ++ rows row ys
  unfolding rows
  rows_append [] ys = refl
  rows_append (x ∷ xs) ys = rw (rows_append xs ys, append_assoc)

  pub length_rows : (xs : List A) → length (rows row xs) ≡ width * length xs
  unfolding rows
  length_rows [] = rw mul-zero
  length_rows (x ∷ xs) = rw (length-append, wide, length_rows xs, mul-suc) (omega arith)

  -- a table, cut at the row of a, which stands at i
  pub record Cut (xs : List A) (rest : List ℕ) (i : ℕ) (a : A) (more : List A) : Type 0 where
    pub long : length (rows row (take i xs)) ≡ width * i
    pub is : rows row xs ++ rest ≡ rows row (take i xs) ++ (row a ++ (rows row more ++ rest))

  cut : (xs : List A) (rest : List ℕ) (i : ℕ) (a : A) (more : List A) → drop i xs ≡ a ∷ more → Cut xs rest i a more
  unfolding rows
  cut xs rest i a more e =
      let h = within xs i a more e in
      let parts : rows row xs ≡ rows row (take i xs) ++ (row a ++ rows row more) =
      ap (rows row) (sym (take-append-drop i xs)) ∙ rw (e, rows_append (take i xs) (a ∷ more)) in
      record { long = rw (length_rows (take i xs), length-take-le i xs (omega arith)); is = rw (parts, append_assoc, append_assoc) }

  -- number `column` of the row of a, which stands at i
  pub row_at : (xs : List A) (rest : List ℕ) (i column : ℕ) (a : A) (more : List A) → drop i xs ≡ a ∷ more → column < width
      → number_at width (rows row xs ++ rest) i column ≡ get_or (row a) column 0
  unfolding number_at
  row_at xs rest i column a more e h =
      let c = cut xs rest i a more e in
      rw (c.is, ← c.long, get_or-append-add) (get_or-append (row a) (rows row more ++ rest) 0 column (rw wide h))

  -- the same number written
  pub row_set : (xs : List A) (rest : List ℕ) (i column v : ℕ) (a b : A) (more : List A) → drop i xs ≡ a ∷ more → column < width → row b ≡ set (row a) column v
      → set (rows row xs ++ rest) (width * i + column) v ≡ rows row (take i xs ++ b ∷ more) ++ rest
  unfolding rows
  row_set xs rest i column v a b more e h s =
      let c = cut xs rest i a more e in
      rw (
        c.is,
        ← c.long,
        set_append_add,
        set-append_left (row a) (rows row more ++ rest) column v (rw wide h),
        ← s,
        rows_append (take i xs) (b ∷ more),
        append_assoc,
        append_assoc,
      )

-- The rows of the table of signatures after one of them is written.
use Prim.Native.Nat.{ℕ, zero, suc, ◌+◌, ◌*◌, ◌≤◌, ◌<◌}
use native.Mathlib.Omega.{arith}
use mathlib.Core.Path.{◌≡◌, refl, sym, ap, ◌∙◌}
use mathlib.Core.Bool.{Bool, true, false}
use mathlib.Core.List.{List, [], ◌∷◌}
use lib.Dec.{ltb}
use lib.ListN.{drop, get_or, length, take}
use lib.Seq.{length-sets, sets}
use borrow.Author.Tests.{ltb-false, ltb-true}
use Rattle.forest.specs.code.Rows.{number_at}
use Rattle.operators.specs.Sorts.{max_width}
use Rattle.terms.specs.Sorts.{Signature}
use Rattle.term_sorts.specs.code.Signatures.{RowIs, RowsAre, all_rows, signature_width}
use Rattle.names.specs.code.Table.{sorts_from}
use Rattle.script.specs.code.Signatures.{SignedIn, Signing, signature_row}
use Rattle.script.proofs.Written.{before_written, behind_written, drop_written, read_written, take_written}

-- there is a sort for each row
pub length_sorts : (names : List ℕ) (r n : ℕ) → length (sorts_from names r n) ≡ n
unfolding sorts_from
length_sorts names r zero = refl
length_sorts names r (suc n) = ap suc (length_sorts names (r + 1) n)

module _ {places placesAfter : List ℕ} where
  -- a row whose numbers are what they were
  pub row_same : {r : ℕ} {f : Signature}
      → ((c : ℕ) → c < signature_width → number_at signature_width placesAfter r c ≡ number_at signature_width places r c) → RowIs places r f → RowIs placesAfter r f
  row_same same row = record {
    counted = same 0 (omega arith) ∙ row.counted;
    result_is = same 1 (omega arith) ∙ row.result_is;
    arguments_are = λ k h. same (2 + k) (omega (arith, row.few)) ∙ row.arguments_are k h;
    few = row.few;
    sort = row.sort;
  }

  -- rows each of which is what it was
  pub rows_same : (base : ℕ) (fs : List Signature)
      → ((k : ℕ) (f : Signature) → k < length fs → RowIs places (base + k) f → RowIs placesAfter (base + k) f) → RowsAre places base fs
      → RowsAre placesAfter base fs
  unfolding RowsAre
  rows_same base [] same rows = tt
  rows_same base (f ∷ earlier) same rows =
      (same (length earlier) f (omega arith) rows.0, rows_same base earlier (λ k g h. same k g (omega arith)) rows.1)

module _ {names places : List ℕ} {row first arguments result : ℕ} (given : Signing names places row first arguments result)
    {placesAfter : List ℕ} (signed : SignedIn names places row first arguments result placesAfter) where
  -- how many numbers are written
  row_length : length (signature_row names first arguments result) ≡ 2 + arguments
  row_length = ap (λ (n : ℕ). suc (suc n)) (length_sorts names first arguments) ∙ omega arith

  -- the table is as long as it was
  pub long_kept : length placesAfter ≡ length places
  long_kept = ap length signed ∙ length-sets places (signature_width * row) (signature_row names first arguments result)

  -- a number that is written
  number_written : (c : ℕ) → c < 2 + arguments → number_at signature_width placesAfter row c ≡ get_or (signature_row names first arguments result) c 0
  unfolding number_at
  number_written c h =
      rw signed (read_written places (signature_width * row) (signature_row names first arguments result) c
      (omega (arith, row_length, given.few, given.low, given.room)) (omega (arith, row_length)))

  -- a number of another row
  number_kept : (r c : ℕ) → (r ≡ row → ⊥) → c < signature_width → number_at signature_width placesAfter r c ≡ number_at signature_width places r c
  unfolding number_at
  number_kept r c other h = rw signed (go (ltb r row) refl)
    where
      wrote : List ℕ
      wrote = signature_row names first arguments result

      go : (b : Bool) → ltb r row ≡ b → get_or (sets places (signature_width * row) wrote) (signature_width * r + c) 0 ≡ get_or places (signature_width * r + c) 0
      go true e = before_written places (signature_width * row) wrote (signature_width * r + c) (omega (arith, ltb-true r row e))
      go false e =
          let later : row < r = omega (arith, ltb-false r row e) in
          behind_written places (signature_width * row) wrote (signature_width * r + c) (omega (arith, row_length, given.few))

  -- the row is that of the signature
  pub row_signed : (f : Signature) → f.arguments ≡ sorts_from names first arguments → f.result ≡ result → result ≤ max_width → RowIs placesAfter row f
  row_signed f ea er narrow =
      let long : length f.arguments ≡ arguments = ap length ea ∙ length_sorts names first arguments in
      record {
        counted = number_written 0 (omega arith) ∙ sym long;
        result_is = number_written 1 (omega arith) ∙ sym er;
        arguments_are = λ k h. number_written (2 + k) (omega arith) ∙ argument k ∙ ap (λ (sorts : List ℕ). get_or sorts k 0) (sym ea);
        few = omega (arith, given.few);
        sort = omega arith;
      }
    where
      argument : (k : ℕ) → get_or (signature_row names first arguments result) (2 + k) 0 ≡ get_or (sorts_from names first arguments) k 0
      argument k = let next : 2 + k ≡ suc (suc k) = omega arith in rw next

  -- another row is what it was
  pub row_kept : (r : ℕ) (f : Signature) → (r ≡ row → ⊥) → RowIs places r f → RowIs placesAfter r f
  row_kept r f other = row_same (λ c h. number_kept r c other h)

  -- rows that the row is none of are what they were
  pub rows_kept : (base : ℕ) (fs : List Signature) → ((k : ℕ) → k < length fs → base + k ≡ row → ⊥) → RowsAre places base fs → RowsAre placesAfter base fs
  rows_kept base fs other = rows_same base fs (λ k f h. row_kept (base + k) f (other k h))

  -- one row more
  pub rows_grow : (base : ℕ) (f : Signature) (earlier : List Signature) → row ≡ base + length earlier → f.arguments ≡ sorts_from names first arguments
      → f.result ≡ result → result ≤ max_width → RowsAre places base earlier → RowsAre placesAfter base (f ∷ earlier)
  unfolding RowsAre
  rows_grow base f earlier here ea er narrow rows =
      (rw (← here) (row_signed f ea er narrow), rows_kept base earlier (λ k h e. omega arith) rows)

  -- what stands before the row
  pub front_kept : (n : ℕ) → n ≤ signature_width * row → take n placesAfter ≡ take n places
  front_kept n h = rw signed (take_written n places (signature_width * row) (signature_row names first arguments result) h)

  -- what stands behind the table
  pub back_kept : drop (signature_width * all_rows) placesAfter ≡ drop (signature_width * all_rows) places
  back_kept =
      rw signed (drop_written (signature_width * all_rows) places (signature_width * row) (signature_row names first arguments result)
      (omega (arith, row_length, given.few, given.low)))

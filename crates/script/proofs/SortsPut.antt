-- The rows of the non-terminals, written one after the other.
use Prim.Native.Nat.{ℕ, zero, suc, ◌+◌, ◌*◌, ◌≤◌, ◌<◌}
use native.Mathlib.Nat.{add-zero}
use native.Mathlib.Omega.{arith}
use mathlib.Core.Path.{◌≡◌, refl, sym, ap, ◌∙◌}
use mathlib.Core.Bool.{Bool, true, false}
use mathlib.Core.List.{List, []}
use lib.Dec.{eqb}
use lib.ListN.{drop, get_or, length, take}
use lib.Seq.{get_or-take}
use borrow.Author.Tests.{eqb-false, eqb-true}
use Rattle.forest.specs.code.Rows.{number_at}
use Rattle.terms.specs.Sorts.{Signature}
use Rattle.operators.specs.Sorts.{max_width}
use Rattle.term_sorts.specs.code.Signatures.{RowIs, RowsAre, SortsAre, all_rows, non_terminal_signature, signature_width}
use Rattle.names.specs.code.Table.{non_terminal_row as firstNonTerminal, sort_in, sorts_from}
use Rattle.script.specs.code.Signatures.{Listed, Listing, SignedIn, Signing}
use Rattle.script.proofs.Signed.{back_kept, front_kept, long_kept, row_kept, row_same, row_signed, rows_same}

-- The signature of a non-terminal.
abbrev sorted : (sort : ℕ) → Signature
sorted sort = record { arguments = []; result = sort }

-- rows with the sorts in the rows of the table of names
sorts-from : (places names : List ℕ) (r first n : ℕ) → ((j : ℕ) → j < n → RowIs places (r + j) (sorted (sort_in names (first + j))))
    → SortsAre places r (sorts_from names first n)
unfolding SortsAre sorts_from
sorts-from places names r first zero rows = tt
sorts-from places names r first (suc n) rows = (
  rw (add-zero, add-zero) at (rows 0 (omega arith)),
  sorts-from places names (r + 1) (first + 1) n later,
)
  where
    later : (j : ℕ) → j < n → RowIs places (r + 1 + j) (sorted (sort_in names (first + 1 + j)))
    later j h =
        let row : r + suc j ≡ r + 1 + j = omega arith in
        let place : first + suc j ≡ first + 1 + j = omega arith in
        rw (row, place) at (rows (suc j) (omega arith))

-- The rows of the first k non-terminals are written.
pub record Sorting (names before places : List ℕ) (listed k : ℕ) : Type 0 where
  pub long : length places ≡ length before
  pub passed : k ≤ listed
  pub rows : (j : ℕ) → j < k → RowIs places (non_terminal_signature + j) (sorted (sort_in names (firstNonTerminal + j)))
  pub front : take (signature_width * non_terminal_signature) places ≡ take (signature_width * non_terminal_signature) before
  pub back : drop (signature_width * all_rows) places ≡ drop (signature_width * all_rows) before

module _ {names before : List ℕ} {listed : ℕ} (given : Listing names before listed) {places : List ℕ} {k : ℕ} (w : Sorting names before places listed k) where
  module _ (h : k < listed) where
    -- the next row may be written
    pub sort_signing : (sort : ℕ) → Signing names places (non_terminal_signature + k) 0 0 sort
    sort_signing sort = record {
      table = given.table;
      fits = omega arith;
      few = omega arith;
      low = omega (arith, given.few);
      room = omega (arith, given.room, w.long);
    }

    -- the sort in it is in range
    sort_narrow : sort_in names (firstNonTerminal + k) ≤ max_width
    unfolding sorts_from
    sort_narrow = given.narrow k h (sort_in names (firstNonTerminal + k)) refl

    -- one more is written
    pub sort_put : {sort : ℕ} → sort ≡ sort_in names (firstNonTerminal + k) → {placesAfter : List ℕ}
        → SignedIn names places (non_terminal_signature + k) 0 0 sort placesAfter → Sorting names before placesAfter listed (k + 1)
    unfolding sorts_from
    sort_put {sort} is {placesAfter} signed = record {
      long = long_kept (sort_signing sort) signed ∙ w.long;
      passed = omega arith;
      rows = rows;
      front = front_kept (sort_signing sort) signed (signature_width * non_terminal_signature) (omega arith) ∙ w.front;
      back = back_kept (sort_signing sort) signed ∙ w.back;
    }
      where
        rows : (j : ℕ) → j < k + 1 → RowIs placesAfter (non_terminal_signature + j) (sorted (sort_in names (firstNonTerminal + j)))
        rows j l = go (eqb j k) refl
          where
            go : (b : Bool) → eqb j k ≡ b → RowIs placesAfter (non_terminal_signature + j) (sorted (sort_in names (firstNonTerminal + j)))
            go true e = rw (eqb-true j k e) (row_signed (sort_signing sort) signed _ refl (sym is) (rw is sort_narrow))
            go false e =
                let other = eqb-false j k e in
                row_kept (sort_signing sort) signed (non_terminal_signature + j) _ (λ same. other (omega arith)) (w.rows j (omega arith))

  -- all are written
  pub all_sorted : listed ≤ k → Listed names before listed places
  all_sorted h =
      let all : k ≡ listed = omega (arith, w.passed) in
      record {
        long = w.long;
        sorts_are = sorts-from places names non_terminal_signature firstNonTerminal listed (rw all at w.rows);
        before = w.front;
        behind = w.back;
      }

-- the rows before those of the non-terminals are what they were
pub rows_before : {names places placesAfter : List ℕ} {listed : ℕ} → Listed names places listed placesAfter → (base : ℕ) (fs : List Signature)
    → base + length fs ≤ non_terminal_signature → RowsAre places base fs → RowsAre placesAfter base fs
unfolding number_at
rows_before {places = places} {placesAfter = placesAfter} l base fs h = rows_same base fs same
  where
    number : (i : ℕ) → i < signature_width * non_terminal_signature → get_or placesAfter i 0 ≡ get_or places i 0
    number i low =
        sym (get_or-take (signature_width * non_terminal_signature) placesAfter i 0 low)
        ∙ ap (λ (front : List ℕ). get_or front i 0) l.before
        ∙ get_or-take (signature_width * non_terminal_signature) places i 0 low

    same : (k : ℕ) (f : Signature) → k < length fs → RowIs places (base + k) f → RowIs placesAfter (base + k) f
    same k f within = row_same (λ c narrow. number (signature_width * (base + k) + c) (omega arith))

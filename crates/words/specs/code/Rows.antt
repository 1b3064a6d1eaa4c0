-- What writing the row of a word asks and gives.
use Rattle.std.specs.Prelude.{ℕ, ◌+◌, ◌*◌, ◌<◌, ◌≤◌, ◌^◌, List, ◌≡◌, length, set}
use Rattle.std.proofs.lemmas.List.Edits.{sets}
use Rattle.words.specs.Table.{Entry, row, value_of}
use Rattle.words.specs.Words.{Word}

-- A word whose next is not known yet.
abbrev pub unlinked : Word → Entry
unlinked w = record { word = w; next = 0 }

-- Room for word n in a table and in a list of values, and numbers that fit its row.
pub record Room (table values : List ℕ) (n start end : ℕ) : Type 0 where
  pub row_fits : 5 * n + 5 ≤ length table
  pub value_fits : n < length values
  pub start_fits : start < 2 ^ 32
  pub end_fits : end < 2 ^ 32

-- The row of word n, whose next is not known yet, and its value are written.
pub record Written (table values : List ℕ) (n : ℕ) (w : Word) (tableAfter valuesAfter : List ℕ) : Type 0 where
  pub table_is : tableAfter ≡ sets table (5 * n) (row (unlinked w))
  pub values_are : valuesAfter ≡ set values n (value_of w.kind)

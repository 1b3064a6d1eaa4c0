-- Reading a whole text: its length, the scan, and then the links.
use Prim.Native.Nat.{ℕ, ◌*◌, ◌/◌, ◌≤◌, ◌<◌, ◌^◌, min}
use native.Mathlib.Nat.{min-le_left, min-le_right}
use native.Mathlib.Omega.{arith}
use mathlib.Core.Path.{◌≡◌, refl, sym, ap, ◌∙◌}
use mathlib.Core.List.{List, append-nil, map}
use borrow.Author.Tests.{le-leb, lt-leb}
use lib.ListN.{length, drop, length-map}
use lib.Seq.{drop-length, take-length}
use Rattle.forest.specs.Tables.{rows}
use Rattle.forest.proofs.Rows.{length_rows}
use Rattle.words.specs.Reading.{ReadWords, reading_of, refused, room_for, words_read}
use Rattle.words.specs.Answers.{Reading, passed}
use Rattle.words.specs.code.Scan.{Scanned}
use Rattle.words.specs.code.Links.{Linked, Linking, linked_from}
use Rattle.words.specs.code.Rows.{unlinked}
use Rattle.words.specs.Table.{entries, row, word_table, word_values}
use Rattle.word_kinds.specs.declared.Fault.TheVariants.{TooLong}
use Rattle.words.specs.declared.Limits.{Limits}
use Rattle.words.proofs.Chains.{entries_long, wide}

pub too_long : (limits : Limits) (text table values : List ℕ) → limits.bytes < length text
    → ReadWords limits text table values (refused TooLong (length text) 0) table values
unfolding reading_of words_read word_table word_values entries rows
too_long limits text table values h = record { found = rw (lt-leb (length text) limits.bytes h); table_is = refl; values_are = refl }

-- the room that the lent table and values have
module _ (limits : Limits) (table values : List ℕ) (room : Limits) (e : room ≡ room_for limits (length table / 5) (length values)) where
  words_are : room.words ≡ min limits.words (min (length table / 5) (length values))
  words_are = ap (λ (l : Limits). l.words) e

  bounds : (room.words ≤ limits.words) × (room.words ≤ length table / 5) × (room.words ≤ length values)
  bounds =
      let outer = min-le_right limits.words (min (length table / 5) (length values)) in (
        omega (arith, words_are, min-le_left limits.words (min (length table / 5) (length values))),
        omega (arith, words_are, outer, min-le_left (length table / 5) (length values)),
        omega (arith, words_are, outer, min-le_right (length table / 5) (length values)),
      )

  pub rows_fit : 5 * room.words ≤ length table
  rows_fit = omega (arith, bounds.1)

  pub values_fit : room.words ≤ length values
  values_fit = bounds.2

  module _ (text : List ℕ) (r : Reading) (scannedTable scannedValues : List ℕ) (scanned : Scanned room text table values r scannedTable scannedValues) where
    none_linked : linked_from (words_read text r) (length (words_read text r)) ≡ map unlinked (words_read text r)
    unfolding linked_from entries
    none_linked = rw (take-length, drop-length) (append-nil (map unlinked (words_read text r)))

    pub to_link : limits.words < 2 ^ 32 → (count : ℕ) → count ≡ passed r → Linking scannedTable count count
    to_link small count ec = record {
      ws = words_read text r;
      rest = drop (length (rows row (map unlinked (words_read text r)))) table;
      is = rw (ec, ← scanned.counted, none_linked) scanned.table_is;
      counted = ec ∙ sym scanned.counted;
      reached = omega arith;
      small = omega (arith, bounds.0, scanned.few);
    }

    pub all_read : length text ≤ limits.bytes → (small : limits.words < 2 ^ 32) (count : ℕ) (ec : count ≡ passed r)
        → (after : List ℕ) → Linked scannedTable count after → ReadWords limits text table values r after scannedValues
    unfolding reading_of to_link word_table
    all_read h small count ec after linked =
        let ws = words_read text r in
        let same : length (rows row (map unlinked ws)) ≡ length (word_table ws) =
        length_rows row 5 wide (map unlinked ws)
        ∙ rw (length-map ws unlinked, ← entries_long ws 0) (sym (length_rows row 5 wide (entries ws 0))) in
        record {
          found = rw (← e, le-leb (length text) limits.bytes h) scanned.found;
          table_is = rw (← same) (linked (to_link small count ec));
          values_are = scanned.values_are;
        }

-- Tables that have a row for each word that a text can have: a text has no more words than bytes.
use Prim.Native.Nat.{ℕ, suc, ◌+◌, ◌*◌, ◌/◌, ◌≤◌, ◌<◌, min}
use native.Mathlib.Nat.{le-div_iff_mul-le, le-min, min-le_left}
use native.Mathlib.Omega.{arith}
use mathlib.Core.Path.{◌≡◌, refl}
use mathlib.Core.Bool.{Bool, true, false, cond}
use mathlib.Core.List.{List, [], ◌∷◌}
use lib.Dec.{leb}
use lib.ListN.{length, length-map}
use borrow.Author.Tests.{le-leb, leb-false, leb-true, lt-leb}
use Rattle.words.specs.Reading.{depth_after, fault_at, found_from, reading_of, room_for}
use Rattle.words.specs.Spans.{comment_after, in_run, starts, starts_from, word_starts}
use Rattle.words.specs.Words.{Word, words_of}
use Rattle.words.specs.Table.{row_width as wordWidth}
use Rattle.words.specs.declared.Limits.{Limits}
use Rattle.texts.specs.code.Texts.{RowEach}

-- ---- a text has no more words than bytes

starts_few : (s : List ℕ) (i : ℕ) (comment run : Bool) → length (starts_from s i comment run) ≤ length s
unfolding starts_from
starts_few [] i comment run = omega arith
starts_few (b ∷ s) i comment run = go (starts comment run b) _ (starts_few s (i + 1) (comment_after comment b) (in_run comment b))
  where
    go : (t : Bool) (later : List ℕ) → length later ≤ length s → length (cond t (i ∷ later) later) ≤ suc (length s)
    go true later h = omega arith
    go false later h = omega arith

pub words_few : (text : List ℕ) → length (words_of text) ≤ length text
unfolding words_of word_starts
words_few text = rw length-map (starts_few text 0 false false)

-- ---- what is found in a text by whoever has room for its words

module _ (limits : Limits) (most : ℕ) where
  -- the same limits, but for the number of words
  abbrev lent : Limits
  lent = record { bytes = limits.bytes; words = most; nesting = limits.nesting }

  same_found : (size : ℕ) (ws : List Word) (i depth : ℕ) → ((n : ℕ) → i ≤ n → n < i + length ws → leb most n ≡ leb limits.words n)
      → found_from lent size ws i depth ≡ found_from limits size ws i depth
  unfolding found_from fault_at
  same_found size [] i depth h = refl
  same_found size (w ∷ ws) i depth h =
      rw (h i (omega arith) (omega arith), same_found size ws (i + 1) (depth_after w.kind depth) (λ n low high. h n (omega arith) (omega arith)))

module _ {limits : Limits} {text words values : List ℕ} (rows : RowEach limits text wordWidth words) (valued : RowEach limits text 1 values) where
  -- there is room for word n, if the limits allow it
  roomy : (n : ℕ) → n < length (words_of text) → n < limits.words → n < min limits.words (min (length words / wordWidth) (length values))
  roomy n low few =
      let short : suc n ≤ length text = omega (arith, words_few text) in
      let rowed : suc n * wordWidth ≤ length words = omega (arith, rows.room (suc n) (omega arith) short) in
      let row : suc n ≤ length words / wordWidth = (le-div_iff_mul-le {k = wordWidth} {x = suc n} {y = length words} (omega arith)).1 rowed in
      le-min (omega arith) (le-min row (omega (arith, valued.room (suc n) (omega arith) short)))

  -- so the limits are those of the reading
  pub found_roomy : reading_of (room_for limits (length words / wordWidth) (length values)) text ≡ reading_of limits text
  unfolding reading_of
  found_roomy = rw (same_found limits _ (length text) (words_of text) 0 0 alike)
    where
      alike : (n : ℕ) → 0 ≤ n → n < 0 + length (words_of text)
          → leb (min limits.words (min (length words / wordWidth) (length values))) n ≡ leb limits.words n
      alike n low high = go (leb limits.words n) refl
        where
          go : (t : Bool) → leb limits.words n ≡ t → leb (min limits.words (min (length words / wordWidth) (length values))) n ≡ t
          go true e = le-leb _ n (omega (arith, leb-true limits.words n e, min-le_left limits.words (min (length words / wordWidth) (length values))))
          go false e = lt-leb _ n (roomy n (omega arith) (omega (arith, leb-false limits.words n e)))

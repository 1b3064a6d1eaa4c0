-- Where a place of a text stands: the counts of a loop over its bytes, and how great they are.
use Prim.Native.Nat.{ℕ, suc, ◌+◌, ◌-◌, ◌≤◌, ◌<◌, min}
use native.Mathlib.Omega.{arith}
use mathlib.Core.Bool.{Bool, true, false, cond}
use mathlib.Core.List.{List, [], ◌∷◌}
use mathlib.Core.Path.{◌≡◌, sym, ap, ◌∙◌}
use borrow.Author.Tests.{eq-eqb, ne_eqb}
use lib.ListN.{length, get_or, take, drop, drop_of_length-le, length-drop, length-take}
use lib.Seq.{take_all, take-length}
use Rattle.forest.specs.Lists.{among}
use Rattle.forest.proofs.Lists.{drop_next}
use Rattle.words.specs.Positions.{Positioned, column_of, end_of, ends_line, greatest, in_last_line, line_of, lines_ended}
use Rattle.words.specs.Spans.{word_end, word_starts}
use Rattle.words.specs.Words.{bytes_at, enquired}
use Rattle.words.specs.declared.Position.{Position}

-- ---- one turn of the loop

-- Before byte i so many lines have ended, and so many bytes stand in the line that has not.
pub record Counting (s : List ℕ) (i lines bytes : ℕ) : Type 0 where
  pub within : i ≤ length s
  pub few_lines : lines ≤ i
  pub few_bytes : bytes ≤ i
  pub lines_left : lines + lines_ended (drop i s) ≡ lines_ended s
  pub bytes_left : in_last_line bytes (drop i s) ≡ in_last_line 0 s

module _ {s : List ℕ} {i lines bytes : ℕ} (counting : Counting s i lines bytes) where
  module _ (h : i < length s) where
    -- The bytes of the last line, by the next byte.
    line_left : in_last_line (cond (ends_line (get_or s i 0)) 0 (bytes + 1)) (drop (i + 1) s) ≡ in_last_line 0 s
    unfolding in_last_line
    line_left = rw (drop_next s i h) at counting.bytes_left

    module _ {more left : ℕ} where
      -- A byte that ends a line.
      pub count_line : get_or s i 0 ≡ 10 → more ≡ lines + 1 → left ≡ 0 → Counting s (i + 1) more left
      unfolding lines_ended
      count_line e el eb =
          let ends : ends_line (get_or s i 0) ≡ true = eq-eqb (get_or s i 0) 10 e in
          let l : lines + (1 + lines_ended (drop (i + 1) s)) ≡ lines_ended s = rw (drop_next s i h, ends) at counting.lines_left in
          let b : in_last_line 0 (drop (i + 1) s) ≡ in_last_line 0 s = rw ends at line_left in
          record {
            within = omega arith;
            few_lines = omega arith;
            few_bytes = omega arith;
            lines_left = omega arith;
            bytes_left = ap (λ (n : ℕ). in_last_line n (drop (i + 1) s)) eb ∙ b;
          }

      -- A byte that does not.
      pub count_byte : (get_or s i 0 ≡ 10 → ⊥) → more ≡ lines → left ≡ bytes + 1 → Counting s (i + 1) more left
      unfolding lines_ended
      count_byte e el eb =
          let goes : ends_line (get_or s i 0) ≡ false = ne_eqb (get_or s i 0) 10 e in
          let l : lines + (0 + lines_ended (drop (i + 1) s)) ≡ lines_ended s = rw (drop_next s i h, goes) at counting.lines_left in
          let b : in_last_line (bytes + 1) (drop (i + 1) s) ≡ in_last_line 0 s = rw goes at line_left in
          record {
            within = omega arith;
            few_lines = omega arith;
            few_bytes = omega arith;
            lines_left = omega arith;
            bytes_left = ap (λ (n : ℕ). in_last_line n (drop (i + 1) s)) eb ∙ b;
          }

  -- After the last byte the counts are those of the text.
  pub count_ends : {p : Position} → length s ≤ i → p.line ≡ min (lines + 1) greatest → p.column ≡ min (bytes + 1) greatest → Positioned s (length s) p
  unfolding lines_ended in_last_line line_of column_of
  count_ends h el ec =
      let l : lines + 0 ≡ lines_ended s = rw (drop_of_length-le s h) at counting.lines_left in
      let b : bytes ≡ in_last_line 0 s = rw (drop_of_length-le s h) at counting.bytes_left in
      record {
        line_is = rw (take-length s) (omega arith);
        column_is = rw (take-length s) (omega arith);
      }

-- ---- a place before the end

module _ {text : List ℕ} {place : ℕ} {p : Position} where
  -- Where the bytes before the place end, the place stands.
  pub place_inside : Positioned (take place text) (length (take place text)) p → Positioned text place p
  unfolding line_of column_of
  place_inside h =
      let l : p.line ≡ min (line_of text place) greatest = rw (take-length (take place text)) at h.line_is in
      let b : p.column ≡ min (column_of text place) greatest = rw (take-length (take place text)) at h.column_is in
      record { line_is = l; column_is = b }

  -- A place from the end on stands where the text ends.
  pub place_past : length text ≤ place → Positioned text (length text) p → Positioned text place p
  unfolding line_of column_of
  place_past past h =
      let same = take-length text ∙ sym (take_all place text past) in
      record { line_is = rw same at h.line_is; column_is = rw same at h.column_is }

-- ---- a text that is short

-- No more lines end than there are bytes.
lines_bounded : (s : List ℕ) → lines_ended s ≤ length s
unfolding lines_ended
lines_bounded [] = omega arith
lines_bounded (b ∷ s) = go (ends_line b) (lines_bounded s)
  where
    go : (t : Bool) → lines_ended s ≤ length s → cond t 1 0 + lines_ended s ≤ suc (length s)
    go true h = omega arith
    go false h = omega arith

-- No more bytes stand in the last line than in all.
bytes_bounded : (n : ℕ) (s : List ℕ) → in_last_line n s ≤ n + length s
unfolding in_last_line
bytes_bounded n [] = omega arith
bytes_bounded n (b ∷ s) = go (ends_line b) (bytes_bounded (cond (ends_line b) 0 (n + 1)) s)
  where
    go : (t : Bool) → in_last_line (cond t 0 (n + 1)) s ≤ cond t 0 (n + 1) + length s → in_last_line (cond t 0 (n + 1)) s ≤ n + suc (length s)
    go true h = omega arith
    go false h = omega arith

module _ {text : List ℕ} {place : ℕ} {p : Position} (h : Positioned text place p) (short : length text < greatest) where
  -- A caller is given the line itself.
  pub line_given : p.line ≡ line_of text place
  unfolding line_of
  line_given = let e = h.line_is in omega (arith, lines_bounded (take place text), length-take place text)

  -- And the column itself.
  pub column_given : p.column ≡ column_of text place
  unfolding column_of
  column_given = let e = h.column_is in omega (arith, bytes_bounded 0 (take place text), length-take place text)

-- ---- the end of the word

module _ (text : List ℕ) (place : ℕ) {word : List ℕ} (is : word ≡ enquired text place) where
  -- A word that starts at a place ends within the text.
  pub word_short : length word ≤ length text - place
  unfolding enquired bytes_at
  word_short = rw is (go (among place (word_starts text)))
    where
      go : (t : Bool) → length (cond t (take (word_end text place - place) (drop place text)) []) ≤ length text - place
      go true = omega (arith, length-take (word_end text place - place) (drop place text), length-drop place text)
      go false = omega arith

  -- Where it ends.
  pub word_ends : place + length word ≡ end_of text place
  unfolding end_of
  word_ends = rw is

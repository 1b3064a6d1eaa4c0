-- Where a place of a text stands: its line, its column, and the end of the word there.
use Rattle.std.specs.Prelude.{ℕ, ◌+◌, ◌-◌, ◌^◌, min, Bool, cond, List, [], ◌∷◌, ◌≡◌, eqb, length, take}
use Rattle.words.specs.Words.{enquired}
use Rattle.words.specs.declared.Position.{Position}

-- "a line ending at byte 10 only" (E6)
abbrev pub ends_line : ℕ → Bool
ends_line b = eqb b 10

-- How many lines end among these bytes.
unfoldable pub lines_ended : List ℕ → ℕ
lines_ended [] = 0
lines_ended (b ∷ s) = cond (ends_line b) 1 0 + lines_ended s

-- How many bytes stand in the last line of these bytes, where n stand in their first line before them.
unfoldable pub in_last_line : (n : ℕ) → List ℕ → ℕ
in_last_line n [] = n
in_last_line n (b ∷ s) = in_last_line (cond (ends_line b) 0 (n + 1)) s

-- "every place inside a text gains its line .., from 1" (E6): one more than the lines that end before the place. "a place at the text's end has the line ..
-- after the last byte"; a place past the end has that too.
unfoldable pub line_of : (text : List ℕ) (place : ℕ) → ℕ
line_of text place = 1 + lines_ended (take place text)

-- ".. and column, from 1" (E6): one more than the bytes that stand before the place in its line. "a place at the text's end has the .. column after the last
-- byte"; a place past the end has that too.
unfoldable pub column_of : (text : List ℕ) (place : ℕ) → ℕ
column_of text place = 1 + in_last_line 0 (take place text)

-- "each word's end besides its start" (E6): the offset past the word that starts at the place; where none starts there, the place itself, which at the text's
-- end is its length.
unfoldable pub end_of : (text : List ℕ) (place : ℕ) → ℕ
end_of text place = place + length (enquired text place)

-- The greatest number that a caller can be given.
abbrev pub greatest : ℕ
greatest = 2 ^ 64 - 1

-- What a caller is told of a place of any text: its line and its column. They are no greater than the text's length and 1, so that only at the end of a text
-- of 2^64 - 1 bytes, which no machine holds, `greatest` can stand for a greater number.
pub record Positioned (text : List ℕ) (place : ℕ) (p : Position) : Type 0 where
  pub line_is : p.line ≡ min (line_of text place) greatest
  pub column_is : p.column ≡ min (column_of text place) greatest

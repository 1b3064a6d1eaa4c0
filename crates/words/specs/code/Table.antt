-- What the functions that read the word table give: the numbers of word i, 0 past the end of the table.
use Rattle.std.specs.Prelude.{ℕ, List}
use Rattle.forest.specs.code.Rows.{number_at}
use Rattle.words.specs.Table.{row_width}

-- The number of word i's kind.
abbrev pub kind_at : List ℕ → ℕ → ℕ
kind_at table i = number_at row_width table i 0

-- The offset of word i.
abbrev pub start_at : List ℕ → ℕ → ℕ
start_at table i = number_at row_width table i 1

-- The offset past word i.
abbrev pub end_at : List ℕ → ℕ → ℕ
end_at table i = number_at row_width table i 2

-- The width of word i; 0 where it is no literal.
abbrev pub width_at : List ℕ → ℕ → ℕ
width_at table i = number_at row_width table i 3

-- The index past word i, or past the list that it begins.
abbrev pub next_at : List ℕ → ℕ → ℕ
next_at table i = number_at row_width table i 4

-- What the functions that read a table give: a number of a row.
use Rattle.std.specs.Prelude.{ℕ, ◌+◌, ◌*◌, List, get_or}

-- Number `column` of row i in a table whose rows have `width` numbers; 0 past the end of the table.
unfoldable pub number_at : (width : ℕ) → List ℕ → ℕ → ℕ → ℕ
number_at width table i column = get_or table (width * i + column) 0

-- How many numbers a row may have where the code reads a table.
abbrev pub widest : ℕ
widest = 8

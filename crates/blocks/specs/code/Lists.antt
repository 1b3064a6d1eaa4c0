-- The parts of a payload that hold the lists, and the length of a file.
use Rattle.std.specs.Prelude.{ℕ, ◌+◌, ◌*◌, ◌/◌, List, [], ◌∷◌, length}
use Rattle.forest.specs.Tables.{rows}
use Rattle.blocks.specs.Blocks.{low, pay_size}

-- The lengths of lists, two bytes each.
abbrev pub lengths_of : List (List ℕ) → List ℕ
lengths_of lists = rows (λ (list : List ℕ). low 2 (length list)) lists

-- The rules of lists, two bytes each.
abbrev pub rules_of : List (List ℕ) → List ℕ
rules_of lists = rows (rows (low 2)) lists

-- The length of a file: as many blocks as its payload needs.
abbrev pub file_length : (script response rules : ℕ) → ℕ
file_length script response rules = 512 * ((24 + script + response + 2 * rules + 509) / pay_size)

-- How many rules lists have.
unfoldable pub rules_in : List (List ℕ) → ℕ
rules_in [] = 0
rules_in (list ∷ more) = length list + rules_in more

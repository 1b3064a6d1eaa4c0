-- Tables: one list of numbers that holds a row of numbers for each thing of a list, one row after the other.
use Rattle.std.specs.Prelude.{ℕ, List, [], ◌∷◌, ◌++◌, drop, length}

-- The rows of the things, one after the other.
unfoldable pub rows : {A : Type 0} → (A → List ℕ) → List A → List ℕ
rows row [] = []
rows row (a ∷ more) = row a ++ rows row more

-- What was lent, with the numbers `front` written over its front, where it has room.
abbrev pub over : (front lent : List ℕ) → List ℕ
over front lent = front ++ drop (length front) lent

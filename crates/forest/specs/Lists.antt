-- Small definitions on lists of numbers.
use Rattle.std.specs.Prelude.{ℕ, Bool, true, false, ◌&&◌, ◌||◌, List, [], ◌∷◌, eqb}
use Prim.Native.Char.{code}
use Prim.Native.String.{String, [] as empty, ◌∷◌ as ◌then◌}

-- The bytes of a quoted text.
abbrev pub spelling : String → List ℕ
spelling empty = []
spelling (c then more) = code c ∷ spelling more

-- Whether a number is among those of a list.
abbrev pub among : ℕ → List ℕ → Bool
among a [] = false
among a (x ∷ more) = eqb a x || among a more

-- Whether two lists of bytes are the same.
unfoldable pub same_bytes : List ℕ → List ℕ → Bool
same_bytes [] [] = true
same_bytes [] (b ∷ v) = false
same_bytes (a ∷ u) [] = false
same_bytes (a ∷ u) (b ∷ v) = eqb a b && same_bytes u v

-- Parts of a table by where they begin and end, and four numbers written one after the other.
use Prim.Native.Nat.{ℕ, suc, ◌+◌, ◌-◌}
use native.Mathlib.Omega.{arith}
use mathlib.Core.Path.{◌≡◌}
use mathlib.Core.List.{List, [], ◌∷◌}
use lib.ListN.{drop, length, length-drop, set, take}
use lib.Seq.{sets, take_all}

-- What stands in a list from an index on, by its length.
pub tail_whole : (n : ℕ) (l : List ℕ) → take (length l - n) (drop n l) ≡ drop n l
tail_whole n l = take_all (length l - n) (drop n l) (omega (arith, length-drop n l))

-- So many numbers of a list from an index on, by where they end.
pub part_whole : (n m : ℕ) (l : List ℕ) → take (n + m - n) (drop n l) ≡ take m (drop n l)
part_whole n m l = let e : n + m - n ≡ m = omega arith in rw e

-- Four numbers, one after the other.
pub four_written : (l : List ℕ) (at a b c d : ℕ) → set (set (set (set l at a) (at + 1) b) (at + 2) c) (at + 3) d ≡ sets l at (a ∷ b ∷ c ∷ d ∷ [])
four_written l at a b c d =
    let one : suc at ≡ at + 1 = omega arith in
    let two : suc (at + 1) ≡ at + 2 = omega arith in
    let three : suc (at + 2) ≡ at + 3 = omega arith in
    rw (one, two, three)

-- Points: "a list of 64-bit numbers, one per declared variable, point after point; Bool is 0 or 1".
use Rattle.std.specs.Prelude.{ℕ, ◌+◌, ◌*◌, ◌/◌, ◌%◌, Bool, cond, not, List, [], ◌∷◌, eqb, ltb, drop, get_or, length, Result, Ok, Err}
use Rattle.operators.specs.Sorts.{values_of}
use Rattle.terms.specs.Values.{value}
use Rattle.terms.specs.declared.Value.{Value}

-- How many points a list of `size` numbers is, where there are n variables: "With no variables the list is empty and one empty point is taken.
-- With variables and an empty list nothing is evaluated."
abbrev pub point_count : (n size : ℕ) → ℕ
point_count n size = cond (eqb n 0) 1 (size / n)

-- Whether a list of `size` numbers is no whole number of points.
abbrev pub cut_short : (n size : ℕ) → Bool
cut_short n size = cond (eqb n 0) (not (eqb size 0)) (not (eqb (size % n) 0))

-- The first index, from i on, of a number that is no value of its variable's sort; past the last where there is none.
unfoldable pub first_outside : (sorts : List ℕ) → (numbers : List ℕ) → (i : ℕ) → ℕ
first_outside sorts [] i = i
first_outside sorts (x ∷ more) i =
    let later = first_outside sorts more (i + 1) in
    cond (ltb x (values_of (get_or sorts (i % length sorts) 0))) later i

-- 16: "point list not whole points, or value outside its sort", at "list length, or first bad index"; "16 (length first)".
unfoldable pub points_of : (sorts : List ℕ) → (numbers : List ℕ) → Result ℕ ℕ
points_of sorts numbers =
    cond (cut_short (length sorts) (length numbers)) (Err (length numbers))
    (cond (ltb (first_outside sorts numbers 0) (length numbers)) (Err (first_outside sorts numbers 0))
    (Ok (point_count (length sorts) (length numbers))))

-- The values of the variables, by their sorts and their numbers.
unfoldable pub values_by : (sorts numbers : List ℕ) → List Value
values_by [] numbers = []
values_by (s ∷ sorts) numbers = value s (get_or numbers 0 0) ∷ values_by sorts (drop 1 numbers)

-- Point p of the list: the value of each variable.
abbrev pub point_at : (sorts : List ℕ) → (numbers : List ℕ) → (p : ℕ) → List Value
point_at sorts numbers p = values_by sorts (drop (p * length sorts) numbers)

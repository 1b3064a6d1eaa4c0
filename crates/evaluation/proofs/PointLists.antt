-- Points as a list of numbers: the loop that looks for a number outside its sort, and the tests on the list's length.
use Rattle.std.specs.Prelude.{Ok, Err}
use Prim.Native.Nat.{ℕ, zero, suc, ◌+◌, ◌%◌, ◌≤◌, ◌<◌}
use native.Mathlib.Omega.{arith}
use mathlib.Core.Path.{◌≡◌, refl, sym, ap, ◌∙◌}
use mathlib.Core.Bool.{Bool, true, false, not}
use mathlib.Core.List.{List, []}
use lib.Dec.{eqb, ltb}
use lib.ListN.{drop, get_or, length}
use lib.Seq.{drop-length}
use borrow.Author.Tests.{eqb-true, le-ltb, lt-ltb, not-false, not-true}
use Rattle.forest.proofs.Lists.{drop_next}
use Rattle.operators.specs.Sorts.{values_of}
use Rattle.evaluation.specs.Points.{cut_short, first_outside, point_count, points_of}
use Rattle.evaluation.specs.code.Points.{SortsSmall, VariableSorts}

-- No number before i is outside its sort.
pub record NoneBefore (sorts numbers : List ℕ) (i : ℕ) : Type 0 where
  pub inside : i ≤ length numbers
  pub so_far : first_outside sorts (drop i numbers) i ≡ first_outside sorts numbers 0

-- So it is at the start.
pub none_before : (sorts numbers : List ℕ) → NoneBefore sorts numbers 0
none_before sorts numbers = record { inside = omega arith; so_far = refl }

module _ {sorts numbers : List ℕ} {i : ℕ} (before : NoneBefore sorts numbers i) where
  -- Where no number is left, none is outside its sort.
  pub none_outside : length numbers ≤ i → first_outside sorts numbers 0 ≡ length numbers
  unfolding first_outside
  none_outside h =
      let e : i ≡ length numbers = omega arith in
      let n : drop i numbers ≡ [] = ap (λ (k : ℕ). drop k numbers) e ∙ drop-length numbers in
      sym before.so_far ∙ ap (λ (l : List ℕ). first_outside sorts l i) n ∙ e

  module _ {fits : Bool} (left : i < length numbers) (tested : fits ≡ ltb (get_or numbers i 0) (values_of (get_or sorts (i % length sorts) 0))) where
    -- A number that does not fit its sort is the first outside.
    pub outside_here : not fits ≡ true → i ≡ first_outside sorts numbers 0
    unfolding first_outside
    outside_here h = rw (drop_next numbers i left, ← tested, not-true fits h) at before.so_far

    -- Past one that fits the search goes on.
    pub outside_later : not fits ≡ false → NoneBefore sorts numbers (i + 1)
    unfolding first_outside
    outside_later h = record { inside = omega arith; so_far = rw (drop_next numbers i left, ← tested, not-false fits h) at before.so_far }

-- A list that is whole points has no numbers where there are no variables.
no_numbers : (n size : ℕ) → cut_short n size ≡ false → 0 < size → 0 < n
no_numbers zero size h p = absurd (omega (arith, eqb-true size 0 (not-false (eqb size 0) h)))
no_numbers (suc n) size h p = omega arith

module _ (sorts numbers : List ℕ) {cut : Bool} (tested : cut ≡ cut_short (length sorts) (length numbers)) where
  -- A list that is no whole points is bad at its length.
  pub bad_length : cut ≡ true → Err (length numbers) ≡ points_of sorts numbers
  unfolding points_of
  bad_length h = rw (sym tested ∙ h)

  module _ (whole : cut ≡ false) where
    -- In whole points each number has a variable.
    pub variable-sorts : SortsSmall sorts → VariableSorts sorts numbers
    variable-sorts e = record { small = e.small; some-variable = no_numbers (length sorts) (length numbers) (sym tested ∙ whole) }

    -- A number outside its sort makes the list bad there.
    pub bad_number : {i : ℕ} → (i < length numbers) × (i ≡ first_outside sorts numbers 0) → Err i ≡ points_of sorts numbers
    unfolding points_of
    bad_number {i} (h, e) = rw (sym tested ∙ whole, ← e, lt-ltb i (length numbers) h)

    -- Any other list is good.
    pub good_points : {n : ℕ} → first_outside sorts numbers 0 ≡ length numbers → n ≡ point_count (length sorts) (length numbers)
        → Ok n ≡ points_of sorts numbers
    unfolding points_of
    good_points e q = rw (sym tested ∙ whole, e, le-ltb (length numbers) (length numbers) (omega arith), q)

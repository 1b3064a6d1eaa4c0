-- A list of numbers that is points: it is whole points, and each number is a value of its variable's sort.
use Rattle.std.specs.Prelude.{Ok, Err}
use Prim.Native.Nat.{ℕ, zero, suc, ◌+◌, ◌*◌, ◌/◌, ◌%◌, ◌≤◌, ◌<◌}
use native.Mathlib.Omega.{arith}
use native.Mathlib.Nat.{add-mul, div-add-mod', mod-eq_of_lt, mul-add-mod_self_right, mul-le-mul_right}
use mathlib.Core.Path.{◌≡◌, refl, ap, ◌∙◌}
use mathlib.Core.Bool.{Bool, true, false, cond, not}
use mathlib.Core.List.{List, [], ◌∷◌}
use borrow.Author.Tests.{eqb-true, ltb-false, ltb-true, not-false}
use lib.Dec.{eqb, ltb}
use lib.ListN.{drop, get_or, length}
use lib.Seq.{get_or-drop}
use Rattle.operators.specs.Sorts.{AllFit, Fit, values_of}
use Rattle.operators.specs.Sorts.AllFit.{no_more, also}
use Rattle.terms.specs.Values.{numbers_in}
use Rattle.evaluation.specs.Points.{cut_short, first_outside, point_at, point_count, points_of, values_by}
use Rattle.evaluation.specs.code.Points.{SortsSmall}

-- What the tests of a list that is points have found.
pub record GoodList (sorts numbers : List ℕ) (n : ℕ) : Type 0 where
  pub uncut : cut_short (length sorts) (length numbers) ≡ false
  pub inside : length numbers ≤ first_outside sorts numbers 0
  pub counted : n ≡ point_count (length sorts) (length numbers)

-- So it is of every such list.
pub good_list : (sorts numbers : List ℕ) {n : ℕ} → points_of sorts numbers ≡ Ok n → GoodList sorts numbers n
unfolding points_of
good_list sorts numbers {n} h =
    by_case (cut_short (length sorts) (length numbers)) refl (ltb (first_outside sorts numbers 0) (length numbers)) refl h
  where
    by_case : (cut : Bool) → cut_short (length sorts) (length numbers) ≡ cut
        → (outside : Bool) → ltb (first_outside sorts numbers 0) (length numbers) ≡ outside
        → cond cut (Err (length numbers)) (cond outside (Err (first_outside sorts numbers 0)) (Ok (point_count (length sorts) (length numbers)))) ≡ Ok n
        → GoodList sorts numbers n
    by_case true e outside o g = let z : ◌≡◌ {A = ℕ} 0 1 = cc in absurd (omega arith)
    by_case false e true o g = let z : ◌≡◌ {A = ℕ} 0 1 = cc in absurd (omega arith)
    by_case false e false o g = record { uncut = e; inside = ltb-false _ _ o; counted = cc }

-- A list that is not cut short is whole points.
whole_points : (n size : ℕ) → cut_short n size ≡ false → point_count n size * n ≡ size
whole_points n size h = by_case (eqb n 0) refl h
  where
    by_case : (no-variables : Bool) → eqb n 0 ≡ no-variables → cond no-variables (not (eqb size 0)) (not (eqb (size % n) 0)) ≡ false
        → cond no-variables 1 (size / n) * n ≡ size
    by_case true e h = omega (arith, eqb-true n 0 e, eqb-true size 0 (not-false (eqb size 0) h))
    by_case false e h = omega (arith, div-add-mod' size n, eqb-true (size % n) 0 (not-false (eqb (size % n) 0) h))

-- Each number before the first outside is a value of its variable's sort.
number_fits : (sorts numbers : List ℕ) (i : ℕ) → i + length numbers ≤ first_outside sorts numbers i → (j : ℕ) → j < length numbers
    → get_or numbers j 0 < values_of (get_or sorts ((i + j) % length sorts) 0)
unfolding first_outside
number_fits sorts [] i h j l = absurd (omega arith)
number_fits sorts (x ∷ more) i h j l = by_case (ltb x (values_of (get_or sorts (i % length sorts) 0))) refl h j l (number_fits sorts more (i + 1))
  where
    by_case : (fits : Bool) → ltb x (values_of (get_or sorts (i % length sorts) 0)) ≡ fits
        → i + length (x ∷ more) ≤ cond fits (first_outside sorts more (i + 1)) i → (j : ℕ) → j < length (x ∷ more)
        → (i + 1 + length more ≤ first_outside sorts more (i + 1) → (m : ℕ) → m < length more
        → get_or more m 0 < values_of (get_or sorts ((i + 1 + m) % length sorts) 0))
        → get_or (x ∷ more) j 0 < values_of (get_or sorts ((i + j) % length sorts) 0)
    by_case true e h zero l later = let here : i + 0 ≡ i = omega arith in rw here (ltb-true _ _ e)
    by_case true e h (suc m) l later =
        let next : i + suc m ≡ i + 1 + m = omega arith in
        rw next (later (omega arith) m (omega arith))
    by_case false e h j l later = absurd (omega arith)

-- Values of variables, each of its sort.
all_fit : (sorts numbers : List ℕ) → ((j : ℕ) → j < length sorts → Fit (get_or sorts j 0) (get_or numbers j 0)) → AllFit sorts (numbers_in (values_by sorts numbers))
unfolding values_by
all_fit [] numbers each = no_more
all_fit (s ∷ sorts) numbers each =
    also (each 0 (omega arith))
    (all_fit sorts (drop 1 numbers) (λ j h. let next : 1 + j ≡ suc j = omega arith in rw (get_or-drop, next) (each (suc j) (omega arith))))

module _ {sorts numbers : List ℕ} {n : ℕ} (good : GoodList sorts numbers n) where
  -- The list is whole points.
  pub whole : point_count (length sorts) (length numbers) * length sorts ≡ length numbers
  whole = whole_points (length sorts) (length numbers) good.uncut

  -- The values at each point are of their sorts.
  pub point_fits : SortsSmall sorts → (p : ℕ) → p < point_count (length sorts) (length numbers) → AllFit sorts (numbers_in (point_at sorts numbers p))
  point_fits small p h = all_fit sorts (drop (p * length sorts) numbers) each
    where
      room : (p + 1) * length sorts ≤ length numbers
      room = omega (arith, mul-le-mul_right {m = p + 1} {n = point_count (length sorts) (length numbers)} (length sorts) (omega arith), whole)

      each : (j : ℕ) → j < length sorts → Fit (get_or sorts j 0) (get_or (drop (p * length sorts) numbers) j 0)
      each j l =
          let at : p * length sorts + j < length numbers = omega (arith, room, add-mul p 1 (length sorts)) in
          let own : (0 + (p * length sorts + j)) % length sorts ≡ j =
          ap (λ (i : ℕ). i % length sorts) (omega arith) ∙ mul-add-mod_self_right p (length sorts) j ∙ mod-eq_of_lt l in
          record {
            sort = small.small j;
            value = rw get_or-drop (rw own at (number_fits sorts numbers 0 (omega (arith, good.inside)) (p * length sorts + j) at));
          }

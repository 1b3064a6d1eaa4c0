-- Laws of lists, by index.
use Prim.Native.Nat.{ℕ, zero, suc, ◌+◌, ◌<◌}
use native.Mathlib.Numerals.{add-one}
use native.Mathlib.Nat.{suc-add}
use native.Mathlib.Omega.{arith}
use mathlib.Core.Path.{◌≡◌, refl, sym, ap}
use mathlib.Core.Bool.{Bool, ◌||◌, or_assoc, or-false}
use mathlib.Core.List.{List, [], ◌∷◌, ◌++◌, map}
use lib.ListN.{length, get_or, drop, take}
use lib.Dec.{eqb}
use lib.Seq.{drop-cons, drop-drop}
use Rattle.forest.specs.Lists.{among}

-- what stands from index i on, by what stands at i
pub drop_next : (s : List ℕ) (i : ℕ) → i < length s → drop i s ≡ get_or s i 0 ∷ drop (i + 1) s
drop_next s i h = rw (add-one, drop-cons s i 0)

module _ {A : Type 0} where
  pub drop_more : (l : List A) (n : ℕ) (a : A) (more : List A) → drop n l ≡ a ∷ more → drop (n + 1) l ≡ more
  drop_more l n a more e = rw (← drop-drop 1 n l, e)

  -- one more of the first elements
  pub take_more : (l : List A) (n : ℕ) (a : A) (more : List A) → drop n l ≡ a ∷ more → take (n + 1) l ≡ take n l ++ (a ∷ [])
  take_more l n a more e = rw add-one (go l n e)
    where
      go : (l : List A) (n : ℕ) → drop n l ≡ a ∷ more → take (suc n) l ≡ take n l ++ (a ∷ [])
      go [] zero e = let z : ◌≡◌ {A = ℕ} 0 1 = cc in absurd (omega arith)
      go [] (suc n) e = let z : ◌≡◌ {A = ℕ} 0 1 = cc in absurd (omega arith)
      go (x ∷ l) zero e = let q : x ≡ a = cc in rw q
      go (x ∷ l) (suc n) e = ap (λ (k : List A). x ∷ k) (go l n e)

  -- an index at which something stands is within the list
  pub within : (l : List A) (n : ℕ) (a : A) (more : List A) → drop n l ≡ a ∷ more → n < length l
  within [] zero a more e = let z : ◌≡◌ {A = ℕ} 0 1 = cc in absurd (omega arith)
  within [] (suc n) a more e = let z : ◌≡◌ {A = ℕ} 0 1 = cc in absurd (omega arith)
  within (x ∷ l) zero a more e = omega arith
  within (x ∷ l) (suc n) a more e = let r = within l n a more e in omega arith

  -- and at an index within the list something stands
  pub record Stands (l : List A) (n : ℕ) : Type 0 where
    pub here : A
    pub is : drop n l ≡ here ∷ drop (n + 1) l

  abbrev pub stands : (l : List A) (n : ℕ) → n < length l → Stands l n
  stands [] n h = absurd (omega arith)
  stands (x ∷ l) zero h = record { here = x; is = refl }
  stands (x ∷ l) (suc n) h = let r = stands l n (omega arith) in record { here = r.here; is = rw suc-add r.is }

  pub drop_map : {B : Type 0} (f : A → B) (n : ℕ) (l : List A) → drop n (map f l) ≡ map f (drop n l)
  drop_map f zero l = refl
  drop_map f (suc n) [] = refl
  drop_map f (suc n) (x ∷ l) = drop_map f n l

-- whether a number is among those of a list, tested one after the other from the left, where an earlier test has passed or not
abbrev pub among_after : Bool → ℕ → List ℕ → Bool
among_after found a [] = found
among_after found a (x ∷ more) = among_after (found || eqb a x) a more

pub one_by_one : (found : Bool) (a : ℕ) (l : List ℕ) → among_after found a l ≡ found || among a l
one_by_one found a [] = sym (or-false found)
one_by_one found a (x ∷ more) = rw (one_by_one (found || eqb a x) a more) (or_assoc found (eqb a x) (among a more))

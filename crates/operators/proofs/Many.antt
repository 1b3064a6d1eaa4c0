-- The chains of iterators over any number of operands: what they give, in the words of the values.
use Rattle.std.proofs.Common.{◌≡◌, ℕ, ◌+◌, Bool, ◌&&◌, eqb, List, [], ◌∷◌, ◌++◌, get_or, drop, drop-drop, reverse, sym, refl, ap, ◌∙◌, Some}
use mathlib.Core.List.{reverse-cons}
use Rattle.std.proofs.lemmas.Option.{none-some}
use Rattle.std.specs.List.{enumerate_from, fold, list_all, reduce, zip}
use Rattle.std.specs.Option.{option_map, unwrap_or}
use Rattle.std.proofs.lemmas.List.Sums.{fold_push}
use Rattle.operators.specs.Values.{chained, differ, group_left, group_right, pairwise, with_each}

module _ (f : ℕ → ℕ → ℕ) where
  -- A fold groups from the left.
  folded : (a : ℕ) (vs : List ℕ) → fold f a vs ≡ group_left f a vs
  unfolding group_left
  folded a [] = refl
  folded a (b ∷ vs) = folded (f a b) vs

  pub grouped_left : (vs : List ℕ) → unwrap_or (reduce f vs) 0 ≡ group_left f (get_or vs 0 0) (drop 1 vs)
  unfolding group_left
  grouped_left [] = refl
  grouped_left (a ∷ vs) = folded a vs

  -- One more item at the end.
  one_more : (g : ℕ → ℕ → ℕ) (xs : List ℕ) (a : ℕ) {r : ℕ} → reduce g xs ≡ Some r → reduce g (xs ++ (a ∷ [])) ≡ Some (g r a)
  one_more g [] a {r} e = absurd (none-some r e)
  one_more g (x ∷ xs) a e = ap Some (fold_push g x xs a) ∙ ap (option_map (λ r. g r a)) e

  -- From the last operand down, it groups from the right.
  reduced : (a : ℕ) (vs : List ℕ) → reduce (λ r b. f b r) (reverse (a ∷ vs)) ≡ Some (group_right f a vs)
  unfolding group_right
  reduced a [] = refl
  reduced a (b ∷ vs) = ap (reduce (λ r b. f b r)) (reverse-cons a (b ∷ vs)) ∙ one_more (λ r b. f b r) (reverse (b ∷ vs)) a (reduced b vs)

  pub grouped_right : (vs : List ℕ) → unwrap_or (reduce (λ r b. f b r) (reverse vs)) 0 ≡ group_right f (get_or vs 0 0) (drop 1 vs)
  unfolding group_right
  grouped_right [] = refl
  grouped_right (a ∷ vs) = ap (λ r. unwrap_or r 0) (reduced a vs)

-- Whether both of a pair are the same.
abbrev pub alike : ℕ × ℕ → Bool
alike p = eqb p.0 p.1

-- The pairs of each operand and the next.
linked : (a : ℕ) (vs : List ℕ) → list_all alike (zip (a ∷ vs) vs) ≡ chained eqb a vs
unfolding chained
linked a [] = refl
linked a (b ∷ vs) = ap (λ t. eqb a b && t) (linked b vs)

pub all_linked : (vs : List ℕ) → list_all alike (zip vs (drop 1 vs)) ≡ chained eqb (get_or vs 0 0) (drop 1 vs)
unfolding chained
all_linked [] = refl
all_linked (a ∷ vs) = linked a vs

-- A value against each of others.
pub each_differs : (a : ℕ) (vs : List ℕ) → list_all (differ a) vs ≡ with_each differ a vs
unfolding with_each
each_differs a [] = refl
each_differs a (b ∷ vs) = ap (λ t. differ a b && t) (each_differs a vs)

module _ (all : List ℕ) where
  -- Whether an operand, by its place, differs from each behind it.
  abbrev pub apart_behind : ℕ × ℕ → Bool
  apart_behind p = with_each differ p.1 (drop (p.0 + 1) all)

  -- The operands from k on.
  apart_from : (k : ℕ) (vs : List ℕ) → drop k all ≡ vs → list_all apart_behind (enumerate_from k vs) ≡ pairwise differ vs
  unfolding pairwise
  apart_from k [] e = refl
  apart_from k (v ∷ vs) e =
      let behind : drop (k + 1) all ≡ vs = sym (drop-drop 1 k all) ∙ ap (drop 1) e in
      rw behind (ap (λ t. with_each differ v vs && t) (apart_from (k + 1) vs behind))

  pub all_apart : list_all apart_behind (enumerate_from 0 all) ≡ pairwise differ all
  all_apart = apart_from 0 all refl

-- Whether trees all have sorts, tree by tree.
use Prim.Native.Nat.{ℕ, suc, ◌+◌, ◌-◌, ◌≤◌, ◌<◌}
use native.Mathlib.Omega.{arith}
use mathlib.Core.Bool.{true, false}
use mathlib.Core.Path.{◌≡◌, refl, sym, ap, ◌∙◌}
use mathlib.Core.List.{List, [], ◌∷◌}
use mathlib.Core.Option.{Option, none as nothing, some}
use lib.ListN.{get_or, length}
use Rattle.forest.proofs.Bools.{apart}
use Rattle.terms.specs.code.Nodes.{size_at}
use Rattle.terms.specs.Sorts.{with_sort}
use Rattle.term_sorts.specs.Forms.{sorted}
use Rattle.term_sorts.specs.code.Forms.{sort_number}
use Rattle.term_sorts.specs.code.Operands.{AllSorted, Stand, Trees, together}
use Rattle.term_sorts.proofs.TreeWalk.{Left, none_left, rest_left, turn}

-- Whether one sort more is there with others.
pub sorted_with : (s : Option ℕ) (more : Option (List ℕ)) → (sort_number s ≡ 0 → ⊥) → sorted (with_sort s more) ≡ sorted more
unfolding with_sort
sorted_with nothing more h = absurd (h refl)
sorted_with (some s) nothing h = refl
sorted_with (some s) (some ss) h = refl

-- It is not, where that sort is missing.
unsorted_with : (s : Option ℕ) (more : Option (List ℕ)) → sort_number s ≡ 0 → sorted (with_sort s more) ≡ false
unfolding with_sort
unsorted_with nothing more h = refl
unsorted_with (some s) more h = absurd (omega arith)

-- The trees behind the first `done` are left from node `here` on, and whether all have sorts is whether these have.
pub record Undecided (forms column : List ℕ) (place count here done : ℕ) : Type 0 where
  pub owes : (e : Trees sort_number forms column place count)
      → Left sort_number forms column here (count - done) (λ (rest : List (Option ℕ)). sorted (together e.sorts) ≡ sorted (together rest))

module _ {forms column : List ℕ} {place count : ℕ} where
  module _ {here done : ℕ} (u : Undecided forms column place count here done) where
    -- The next tree ends within the column.
    pub undecided_room : Trees sort_number forms column place count → done < count → here + size_at forms here ≤ length column
    undecided_room e h = (turn (u.owes e) (omega arith)).room

    -- The next tree has no sort.
    pub undecided_fails : {sort : ℕ} → done < count → sort ≡ get_or column here 0 → sort ≡ 0 → AllSorted forms column place count false
    unfolding together
    undecided_fails h q z e =
        let t = turn (u.owes e) (omega arith) in
        sym (t.owed ∙ unsorted_with t.first (together t.more) (sym t.number_is ∙ sym q ∙ z))

    -- The next tree has a sort.
    pub undecided_goes : {sort size : ℕ} → done < count → sort ≡ get_or column here 0 → (sort ≡ 0 → ⊥) → size ≡ size_at forms here
        → Undecided forms column place count (here + size) (done + 1)
    unfolding together
    undecided_goes h q z k = record {
      owes = λ e.
          let t = turn (u.owes e) (omega arith) in
          let one : count - done - 1 ≡ count - (done + 1) = omega arith in
          rw (← one) (rest_left t k (t.owed ∙ sorted_with t.first (together t.more) (λ n. z (q ∙ t.number_is ∙ n))));
    }

    -- All trees have sorts.
    pub undecided_ends : count ≤ done → AllSorted forms column place count true
    unfolding together
    undecided_ends h e = sym (none_left (u.owes e) (omega arith))

-- Trees that all have sorts, with their sorts.
pub record Present (forms column : List ℕ) (place : ℕ) (all : List (Option ℕ)) : Type 0 where
  pub sorts : List ℕ
  pub is : together all ≡ some sorts
  pub stand : Stand (λ (s : ℕ). s + 1) forms column place sorts
  pub counted : length all ≡ length sorts

-- Where all have sorts, these are they.
pub all_present : (forms column : List ℕ) (place : ℕ) (all : List (Option ℕ)) → sorted (together all) ≡ true → Stand sort_number forms column place all
    → Present forms column place all
unfolding together Stand with_sort
all_present forms column place [] h stand = record { sorts = []; is = refl; stand = tt; counted = refl }
all_present forms column place (nothing ∷ more) h stand = apart h
all_present forms column place (some s ∷ more) h stand =
    let r = all_present forms column (place + size_at forms place) more (sym (sorted_with (some s) (together more) (λ z. omega arith)) ∙ h) stand.2 in
    record { sorts = s ∷ r.sorts; is = ap (with_sort (some s)) r.is; stand = (stand.0, stand.1, r.stand); counted = ap suc r.counted }

-- What the tests of the operands of a node ask and give.
use Rattle.std.specs.Prelude.{ℕ, ◌+◌, ◌≤◌, ◌<◌, Bool, List, [], ◌∷◌, ◌≡◌, get_or, length}
use Rattle.std.proofs.Math.Option.{Option, none as nothing, some}
use Rattle.operators.specs.Sorts.{all_are, sort_where}
use Rattle.terms.specs.code.Nodes.{size_at}
use Rattle.terms.specs.Sorts.{with_sort}
use Rattle.term_sorts.specs.Forms.{sorted}
use Rattle.term_sorts.specs.code.Forms.{sort_number}

-- The sorts of trees one after the other; none where one of them has none.
unfoldable pub together : List (Option ℕ) → Option (List ℕ)
together [] = some []
together (s ∷ more) = with_sort s (together more)

-- Trees of these sorts stand one after the other from node `place` on: the column has the number of each one's sort, and the table its size.
unfoldable pub Stand : {A : Type 0} → (number : A → ℕ) → (forms column : List ℕ) → (place : ℕ) → (sorts : List A) → Type 0
Stand number forms column place [] = Unit {0}
Stand number forms column place (s ∷ more) =
    let next = place + size_at forms place in
    (get_or column place 0 ≡ number s) × (next ≤ length column) × Stand number forms column next more

-- So many trees stand from node `place` on.
pub record Trees {A : Type 0} (number : A → ℕ) (forms column : List ℕ) (place count : ℕ) : Type 0 where
  pub sorts : List A
  pub stand : Stand number forms column place sorts
  pub counted : count ≡ length sorts

-- Whether all of them have sorts.
abbrev pub AllSorted : (forms column : List ℕ) (place count : ℕ) → Bool → Type 0
AllSorted forms column place count r = (e : Trees sort_number forms column place count) → r ≡ sorted (together e.sorts)

-- So many trees that have sorts stand from node `place` on.
abbrev pub SortedTrees : (forms column : List ℕ) (place count : ℕ) → Type 0
SortedTrees forms column place count = Trees (λ (s : ℕ). s + 1) forms column place count

-- At least one such tree.
pub record SomeTrees (forms column : List ℕ) (place count : ℕ) : Type 0 where
  pub trees : SortedTrees forms column place count
  pub any : 0 < count

-- The sort that all have; none where they differ, or where there is none of them.
unfoldable pub common_sort : List ℕ → Option ℕ
common_sort [] = nothing
common_sort (s ∷ more) = sort_where (all_are s more) s

-- The sort that the trees have in common.
abbrev pub Common : (forms column : List ℕ) (place count r : ℕ) → Type 0
Common forms column place count r = (e : SomeTrees forms column place count) → r ≡ sort_number (common_sort e.trees.sorts)

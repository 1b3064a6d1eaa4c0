-- Trees that have sorts.
use Prim.Native.Nat.{ℕ}
use mathlib.Core.Path.{◌≡◌, refl}
use mathlib.Core.List.{List, ◌∷◌}
use mathlib.Core.Option.{some}
use Rattle.forest.specs.Forest.{tree}
use Rattle.terms.specs.Labels.{Label, Terms}
use Rattle.terms.specs.Sorts.{Scope, label_sort, sort_over, sorts_of, with_sort}
use Rattle.terms.proofs.EachOfTrees.{Joining, Parts, parts}

-- How sorts are joined.
pub joining : Joining sort_over with_sort
unfolding sort_over with_sort
joining =
    record { over_none = λ rule. refl; over_some = λ rule ss. refl; with_none = λ more. refl; with_no_more = λ s. refl; with_some = λ s ss. refl }

-- The sort of a tree that has one, the sorts of its operands and those of the trees that follow.
pub sorted : (scope : Scope) (l : Label) (ops rest : Terms) {ss : List ℕ} → sorts_of scope (tree l ops rest) ≡ some ss
    → Parts (label_sort scope l) (sorts_of scope ops) (sorts_of scope rest) ss
unfolding sorts_of
sorted scope l ops rest h = parts joining (label_sort scope l) (sorts_of scope ops) (sorts_of scope rest) h

-- A tree has a sort where its label has it over the sorts of its operands.
pub sorts_tree : (scope : Scope) (l : Label) (ops rest : Terms) {s : ℕ} {operands others : List ℕ} → label_sort scope l operands ≡ some s
    → sorts_of scope ops ≡ some operands → sorts_of scope rest ≡ some others → sorts_of scope (tree l ops rest) ≡ some (s ∷ others)
unfolding sorts_of sort_over with_sort
sorts_tree scope l ops rest h o r = rw (o, r, h)

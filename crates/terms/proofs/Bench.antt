-- "Settled on the bench": the costs of bodies that document 01 gives, as one table under one statement.
use Prim.Native.Nat.{ℕ}
use mathlib.Core.Path.{◌≡◌, refl}
use mathlib.Core.List.{[], ◌∷◌, map}
use Rattle.forest.specs.Forest.{none, tree}
use Rattle.forest.specs.Lists.{same_bytes, spelling}
use Rattle.operators.specs.Operators.{named, operator_at, operator_of, operator_sort, operators}
use Rattle.operators.specs.Sorts.{sort_by}
use Rattle.terms.specs.Costs.{costs, defined_cost}
use Rattle.terms.specs.Labels.{Terms, defined, name, operator}
use Rattle.terms.specs.Sorts.{Definition, called_sort, label_sort, same_sorts, sort_over, sorts_of, with_sort}
use Rattle.terms.specs.code.Sorted.{AllSorted}

-- A function of an argument x and a result of 32 bits.
abbrev pub over32 : (body : Terms) → Definition
over32 body = record { signature = record { arguments = 32 ∷ []; result = 32 }; body = body }

-- The term x, and the terms that follow it.
abbrev pub x : (rest : Terms) → Terms
x rest = tree (name 32 0) none rest

-- Function k, applied to x and once more to what that gives.
abbrev pub twice : (k : ℕ) → Terms
twice k = tree (defined k) (tree (defined k) (x none) none) none

-- "`d0` = (bvadd x x), each next `d` applies the last twice"
abbrev pub d0 : Definition
d0 = over32 (tree (operator (operator_of (spelling "bvadd")) 0 0) (x (x none)) none)

abbrev pub d1 : Definition
d1 = over32 (twice 0)

abbrev pub d2 : Definition
d2 = over32 (twice 1)

-- "body costs 3, 9, 21 (P)"
pub bench_costs : map (defined_cost (d2 ∷ d1 ∷ d0 ∷ [])) (0 ∷ 1 ∷ 2 ∷ []) ≡ 3 ∷ 9 ∷ 21 ∷ []
unfolding costs defined_cost
bench_costs = refl

-- Their bodies have their sorts.
pub bench_sorted : AllSorted (d2 ∷ d1 ∷ d0 ∷ [])
unfolding AllSorted called_sort label_sort named operator_at operator_of operator_sort operators same_bytes same_sorts sort_by sort_over sorts_of with_sort
bench_sorted = (refl, (refl, (refl, tt)))

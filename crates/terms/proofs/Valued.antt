-- Trees that have values.
use native.Mathlib.Omega.{arith}
use mathlib.Core.Path.{◌≡◌, refl, ap}
use mathlib.Core.List.{List, []}
use mathlib.Core.Option.{some}
use lib.ListN.{length}
use Rattle.forest.specs.Forest.{count, none, tree}
use Rattle.terms.proofs.EachOfTrees.{Joining, Parts, parts}
use Rattle.terms.specs.Labels.{Label, Terms}
use Rattle.terms.specs.Values.{Meaning, label_value, value_over, values_in, with_value}
use Rattle.terms.specs.declared.Value.{Value}

-- How values are joined.
joining : Joining value_over with_value
unfolding value_over with_value
joining =
    record { over_none = λ rule. refl; over_some = λ rule vs. refl; with_none = λ more. refl; with_no_more = λ v. refl; with_some = λ v vs. refl }

-- What it says of the parts of a tree, and of the trees that follow, that they have values.
abbrev pub TreeParts : (meaning : Meaning) → Label → (ops rest : Terms) → (vs : List Value) → Type 0
TreeParts meaning l ops rest vs = Parts (label_value meaning l) (values_in meaning ops) (values_in meaning rest) vs

-- The value of a tree that has one, the values of its operands and those of the trees that follow.
pub tree_parts : (meaning : Meaning) (l : Label) (ops rest : Terms) {vs : List Value} → values_in meaning (tree l ops rest) ≡ some vs
    → TreeParts meaning l ops rest vs
unfolding values_in
tree_parts meaning l ops rest h = parts joining (label_value meaning l) (values_in meaning ops) (values_in meaning rest) h

-- There are as many values as terms.
pub values_count : (meaning : Meaning) (t : Terms) {vs : List Value} → values_in meaning t ≡ some vs → length vs ≡ count t
unfolding values_in count
values_count meaning none {vs} h = let e : vs ≡ [] = cc in ap length e
values_count meaning (tree l ops rest) h =
    let p = tree_parts meaning l ops rest h in
    omega (arith, values_count meaning rest p.rest_have, ap length p.together)

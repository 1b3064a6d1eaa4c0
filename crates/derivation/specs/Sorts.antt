-- Sorts of forms: terms in which non-terminals, `(Constant σ)` and `(Variable σ)` may stand. An ill-sorted form has none.
use Rattle.std.specs.Prelude.{ℕ, ◌&&◌, List, [], eqb, ltb, get_or, length}
use Rattle.std.proofs.Math.Option.{Option, some}
use Rattle.forest.specs.Forest.{Forest, none, tree}
use Rattle.operators.specs.Sorts.{sort_where}
use Rattle.terms.specs.Sorts.{Scope, label_sort, sort_over, with_sort}
use Rattle.derivation.specs.Derivation.{Item, any_argument, any_literal, non_terminal, the}

-- What a form may name: what a term may, and the sorts of the non-terminals in their order.
pub record FormScope : Type 0 where
  pub terms : Scope
  pub non_terminals : List ℕ

-- The sort of a node of a form over operands of the sorts ss; a non-terminal, `(Constant σ)` and `(Variable σ)` have no operands.
unfoldable pub item_sort : FormScope → Item → (ss : List ℕ) → Option ℕ
item_sort scope (the l) ss = label_sort scope.terms l ss
item_sort scope (non_terminal A) ss = sort_where (ltb A (length scope.non_terminals) && eqb (length ss) 0) (get_or scope.non_terminals A 0)
item_sort scope (any_literal s) ss = sort_where (eqb (length ss) 0) s
item_sort scope (any_argument s) ss = sort_where (eqb (length ss) 0) s

-- The sort of the tree of a node.
abbrev pub tree_sort : FormScope → Item → Option (List ℕ) → Option ℕ
tree_sort scope i ops = sort_over (item_sort scope i) ops

-- The sorts of the forms; none where one is ill-sorted.
unfoldable pub form_sorts : FormScope → Forest Item → Option (List ℕ)
form_sorts scope none = some []
form_sorts scope (tree i ops rest) = with_sort (tree_sort scope i (form_sorts scope ops)) (form_sorts scope rest)

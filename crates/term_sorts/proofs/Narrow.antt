-- Every sort is at most 64 wide, so that its number fits a byte.
use Prim.Native.Nat.{ℕ, zero, suc, ◌+◌, ◌-◌, ◌≤◌}
use native.Mathlib.Omega.{arith}
use mathlib.Core.Bool.{Bool, true, false, cond, ◌&&◌}
use mathlib.Core.Path.{◌≡◌, refl}
use mathlib.Core.List.{List, [], ◌∷◌}
use mathlib.Core.Option.{Option, none as nothing, some}
use borrow.Author.Tests.{leb-true, ltb-true}
use lib.Dec.{eqb, leb, ltb}
use lib.ListN.{get_or, length}
use Rattle.forest.proofs.Bools.{and_right}
use Rattle.forest.specs.Forest.{Forest, none, tree}
use Rattle.operators.specs.Operators.{operator_at, operator_count, operator_sort, takes}
use Rattle.operators.specs.Sorts.{SortRule, all_are, bool, choice, cutting, equality, joining, logic, max_width, order, sort_by, sort_where, values_of, vector}
use Rattle.operators.specs.Sorts.{width}
use Rattle.derivation.specs.Derivation.{Item, any_argument, any_literal, non_terminal, the}
use Rattle.terms.specs.Labels.{defined, function, literal, name, operator}
use Rattle.terms.specs.Sorts.{label_sort, same_sorts, sort_over, with_sort}
use Rattle.term_sorts.specs.Forms.{FormScope, form_sorts, item_sort, tree_sort}
use Rattle.term_sorts.specs.code.Forms.{sort_number}
use Rattle.term_sorts.specs.code.Nodes.{NodeAt}
use Rattle.term_sorts.specs.code.Signatures.{Every, Narrow, Real, Sortable}
use Rattle.term_sorts.proofs.Every.{every_at}
use Rattle.term_sorts.proofs.Items.{Callable, callable}

-- A sort is at most 64 wide, where it is there.
record Slim (s : Option ℕ) : Type 0 where
  slim : sort_number s ≤ max_width + 1

-- Sorts are, where they are there.
abbrev AllSlim : Option (List ℕ) → Type 0
AllSlim nothing = Unit {0}
AllSlim (some ss) = (k : ℕ) → get_or ss k 0 ≤ max_width

-- A sort that is missing.
none_slim : Slim nothing
none_slim = record { slim = omega arith }

-- A sort that a test gives.
where_slim : (test : Bool) (s : ℕ) → (test ≡ true → s ≤ max_width) → Slim (sort_where test s)
where_slim true s h = record { slim = omega (arith, h refl) }
where_slim false s h = none_slim

-- The sort that a rule gives.
rule_slim : (rule : SortRule) (i j : ℕ) (ss : List ℕ) → ((k : ℕ) → get_or ss k 0 ≤ max_width) → Slim (sort_by rule i j ss)
unfolding sort_by
rule_slim logic i j ss h = where_slim (all_are bool ss) bool (λ e. omega arith)
rule_slim equality i j [] h = none_slim
rule_slim equality i j (s ∷ more) h = where_slim (all_are s more) bool (λ e. omega arith)
rule_slim choice i j [] h = none_slim
rule_slim choice i j (c ∷ []) h = none_slim
rule_slim choice i j (c ∷ s ∷ more) h = where_slim (eqb c bool && all_are s more) s (λ e. h 1)
rule_slim width i j [] h = none_slim
rule_slim width i j (s ∷ more) h = where_slim (vector s && all_are s more) s (λ e. h 0)
rule_slim order i j [] h = none_slim
rule_slim order i j (s ∷ more) h = where_slim (vector s && all_are s more) bool (λ e. omega arith)
rule_slim joining i j [] h = none_slim
rule_slim joining i j (s ∷ []) h = none_slim
rule_slim joining i j (s ∷ t ∷ more) h =
    let both = vector s && vector t in
    where_slim (both && leb (s + t) max_width) (s + t) (λ e. leb-true (s + t) max_width (and_right both (leb (s + t) max_width) e))
rule_slim cutting i j [] h = none_slim
rule_slim cutting i j (s ∷ more) h =
    where_slim (leb j i && ltb i s) (i - j + 1) (λ e. omega (arith, ltb-true i s (and_right (leb j i) (ltb i s) e), h 0))

-- One of two sorts.
either_slim : (test : Bool) {one other : Option ℕ} → Slim one → Slim other → Slim (cond test one other)
either_slim true p q = p
either_slim false p q = q

-- The sort of a function or a non-terminal.
called_slim : {signatures : List ℕ} {scope : FormScope} {i : Item} {row : ℕ} → Callable signatures scope i row → (ss : List ℕ) → Slim (item_sort scope i ss)
called_slim c ss = rw (c.gives ss) (where_slim (same_sorts ss c.by.arguments) c.by.result (λ e. c.row_is.sort))

module _ {forms signatures : List ℕ} (g : Sortable forms signatures) where
  -- The sort of an item over operands of such sorts.
  item_slim : (i : Item) → Real g.scope i → Narrow i → (ss : List ℕ) → ((k : ℕ) → get_or ss k 0 ≤ max_width) → Slim (item_sort g.scope i ss)
  unfolding item_sort label_sort operator_sort
  item_slim (the (literal s v)) real narrow ss h = where_slim (leb s max_width && ltb v (values_of s) && eqb (length ss) 0) s (λ e. real.sort)
  item_slim (the (name s k)) real narrow ss h =
      let names = g.scope.terms.names in
      where_slim (ltb k (length names) && eqb (get_or names k 0) s && eqb (length ss) 0) s (λ e. narrow)
  item_slim (the (operator o i j)) real narrow ss h =
      either_slim (ltb o operator_count && takes (operator_at o) (length ss)) (rule_slim (operator_at o).rule i j ss h) none_slim
  item_slim (the (defined k)) real narrow ss h = called_slim (callable g (the (defined k)) real refl) ss
  item_slim (the (function k)) real narrow ss h = called_slim (callable g (the (function k)) real refl) ss
  item_slim (non_terminal A) real narrow ss h = called_slim (callable g (non_terminal A) real refl) ss
  item_slim (any_literal s) real narrow ss h = where_slim (eqb (length ss) 0) s (λ e. narrow)
  item_slim (any_argument s) real narrow ss h = where_slim (eqb (length ss) 0) s (λ e. narrow)

  -- The sort of a tree.
  tree_slim : (i : Item) → Real g.scope i → Narrow i → (ops : Option (List ℕ)) → AllSlim ops → Slim (tree_sort g.scope i ops)
  unfolding sort_over
  tree_slim i real narrow nothing h = none_slim
  tree_slim i real narrow (some ss) h = item_slim i real narrow ss h

  -- One sort more.
  with_slim : (s : Option ℕ) (more : Option (List ℕ)) → Slim s → AllSlim more → AllSlim (with_sort s more)
  unfolding with_sort
  with_slim nothing more p q = tt
  with_slim (some s) nothing p q = tt
  with_slim (some s) (some ss) p q = go
    where
      go : (k : ℕ) → get_or (s ∷ ss) k 0 ≤ max_width
      go zero = omega (arith, p.slim)
      go (suc k) = q k

  -- The sorts of forms.
  forms_slim : (F : Forest Item) → Every (Real g.scope) F → Every Narrow F → AllSlim (form_sorts g.scope F)
  unfolding Every form_sorts
  forms_slim none real narrow = λ k. omega arith
  forms_slim (tree i ops rest) real narrow =
      with_slim _ _ (tree_slim i real.0 narrow.0 _ (forms_slim ops real.1 narrow.1)) (forms_slim rest real.2 narrow.2)

  -- The sort of the first tree.
  first_slim : (i : Item) (ops rest : Forest Item) → Every (Real g.scope) (tree i ops rest) → Every Narrow (tree i ops rest)
      → Slim (tree_sort g.scope i (form_sorts g.scope ops))
  unfolding Every
  first_slim i ops rest real narrow = tree_slim i real.0 narrow.0 _ (forms_slim ops real.1 narrow.1)

-- The number of the sort of a node's tree.
pub number_small : {forms signatures column : List ℕ} {node : ℕ} {whole : Bool} (e : NodeAt forms signatures column node whole)
    → sort_number (tree_sort e.given.scope e.item (form_sorts e.given.scope e.operands)) ≤ max_width + 1
number_small {node = node} e =
    let g = e.given in
    let real = every_at (Real g.scope) g.F node e.is g.real in
    let narrow = every_at Narrow g.F node e.is g.narrow in
    (first_slim g e.item e.operands e.rest real narrow).slim

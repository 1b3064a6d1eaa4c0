-- What the tables say of a node of the forms, and the sort of its tree.
use Prim.Native.Nat.{ℕ, suc, ◌+◌, ◌<◌}
use borrow.Author.Tests.{not-false, not-true}
use mathlib.Core.Bool.{not, Bool, true, false, cond}
use mathlib.Core.Path.{◌≡◌, refl, sym, ap, ◌∙◌}
use mathlib.Core.List.{List, ◌++◌}
use mathlib.Core.Option.{Option, none as nothing, some}
use lib.Dec.{eqb, lit<}
use lib.ListN.{get_or, length}
use Rattle.forest.proofs.Bools.{apart}
use Rattle.forest.proofs.Nodes.{node_at}
use Rattle.forest.proofs.Rows.{row_at}
use Rattle.forest.specs.Forest.{Forest, count, nodes_of, none, tree}
use Rattle.forest.specs.code.Cursors.{from}
use Rattle.forest.specs.code.Rows.{number_at}
use Rattle.forest.specs.Tables.{rows}
use Rattle.derivation.proofs.Reading.{ItemSays}
use Rattle.derivation.specs.Derivation.{Item, any_argument, any_literal, non_terminal, the}
use Rattle.derivation.specs.code.Tables.{form_table, item_code, item_row, item_value}
use Rattle.terms.specs.Labels.{defined, function, literal, name, operator}
use Rattle.terms.specs.code.Codes.{head_of, kind_of, operator_kind}
use Rattle.terms.specs.code.Nodes.{code_at, operands_at, row_width, value_at}
use Rattle.terms.specs.Sorts.{sort_over}
use Rattle.operators.specs.Sorts.{sort_where}
use Rattle.term_sorts.specs.Forms.{FormScope, form_sorts, item_sort, sorted, tree_sort}
use Rattle.term_sorts.specs.code.Signatures.{Real, all_rows}
use Rattle.term_sorts.proofs.Every.{every_at, every_first}
use Rattle.term_sorts.proofs.Items.{Callable, Told, callable, is_called, leaf_item, operator_item}
use Rattle.term_sorts.specs.code.Forms.{sort_number}
use Rattle.term_sorts.specs.code.Nodes.{NodeAt, NodeGives, first_row, tree_sorts}
use Rattle.term_sorts.specs.code.Calls.{Called, CalledGives}
use Rattle.term_sorts.specs.code.Rules.{OperatorGives}
use Rattle.term_sorts.specs.code.Operands.{SortedTrees, together}
use Rattle.term_sorts.proofs.RuleSorts.{number_of}
use Rattle.term_sorts.proofs.AllSorted.{all_present}

-- The table of forms, whatever follows it, says of the node at a cursor what stands there.
pub form_says : {forms : List ℕ} (all : Forest Item) (rest : List ℕ) → forms ≡ form_table all ++ rest → {p : ℕ} {i : Item} {ops more : Forest Item}
    → from all p ≡ tree i ops more → ItemSays forms p i ops
unfolding form_table
form_says all rest t {p} {i} {ops} {more} e =
    rw t (record { code = column 0 (lit< tt); value = column 1 (lit< tt); operands = column 2 (lit< tt); size = column 3 (lit< tt) })
  where
    column : (k : ℕ) → k < row_width → number_at row_width (rows item_row (nodes_of all) ++ rest) p k ≡ get_or (item_row (record { label = i; operands = ops })) k 0
    column k h = row_at item_row row_width (λ n. refl) (nodes_of all) rest p k _ _ (node_at all p i ops more e) h

-- An item that the reader makes is told by its numbers.
told_real : (scope : FormScope) (i : Item) → Real scope i → Told i
told_real scope (the (literal s v)) h = tt
told_real scope (the (name s k)) h = tt
told_real scope (the (operator o i j)) h = h
told_real scope (the (defined k)) h = tt
told_real scope (the (function k)) h = tt
told_real scope (non_terminal A) h = tt
told_real scope (any_literal s) h = tt
told_real scope (any_argument s) h = tt

-- The sorts of forms are those of their trees together.
pub sorts_together : (scope : FormScope) (F : Forest Item) → together (tree_sorts scope F) ≡ form_sorts scope F
unfolding together tree_sorts form_sorts
sorts_together scope none = refl
sorts_together scope (tree i ops rest) = rw (sorts_together scope rest)

-- There are as many as trees.
pub sorts_count : (scope : FormScope) (F : Forest Item) → length (tree_sorts scope F) ≡ count F
unfolding tree_sorts count
sorts_count scope none = refl
sorts_count scope (tree i ops rest) = ap suc (sorts_count scope rest)

-- The number of a leaf's sort, which has so many operands.
leaf_number : {n m sort s : ℕ} → n ≡ m → sort ≡ s → cond (eqb n 0) (sort + 1) 0 ≡ sort_number (sort_where (eqb m 0) s)
leaf_number {m = m} {s = s} p q = rw (p, q) (number_of (eqb m 0) s)

-- A node whose operands have no sorts.
unsorted_node : (rule : List ℕ → Option ℕ) (sorts : Option (List ℕ)) → sorted sorts ≡ false → 0 ≡ sort_number (sort_over rule sorts)
unfolding sort_over
unsorted_node rule nothing h = refl
unsorted_node rule (some ss) h = apart (sym h)

module _ {forms signatures column : List ℕ} {node : ℕ} {whole : Bool} where
  -- An operand of the node has no sort.
  pub node_fails : not whole ≡ true → NodeGives forms signatures column node whole 0
  node_fails h e = unsorted_node (item_sort e.given.scope e.item) (form_sorts e.given.scope e.operands) (sym e.whole_is ∙ not-true whole h)

  -- What the tables say of the node.
  says_of : (e : NodeAt forms signatures column node whole) → ItemSays forms node e.item e.operands
  says_of e = form_says e.given.F e.given.rest e.given.is_forms e.is

  -- Its item is one that the reader makes.
  real_at : (e : NodeAt forms signatures column node whole) → Real e.given.scope e.item
  real_at e =
      let all = every_at (Real e.given.scope) e.given.F node e.is e.given.real in
      every_first (Real e.given.scope) e.item e.operands e.rest all

  -- So it is told by its numbers.
  told_at : (e : NodeAt forms signatures column node whole) → Told e.item
  told_at e = told_real e.given.scope e.item (real_at e)

  -- The node's operands have sorts.
  record Ready (e : NodeAt forms signatures column node whole) (n : ℕ) : Type 0 where
    trees : SortedTrees forms column (node + 1) n
    is : form_sorts e.given.scope e.operands ≡ some trees.sorts

  module _ (h : not whole ≡ false) {n : ℕ} (n-is : n ≡ operands_at forms node) where
    -- They have, where the test says so.
    ready : (e : NodeAt forms signatures column node whole) → Ready e n
    ready e =
        let scope = e.given.scope in
        let all = tree_sorts scope e.operands in
        let one = sorts_together scope e.operands in
        let p = all_present forms column (node + 1) all (ap sorted one ∙ sym e.whole_is ∙ not-false whole h) e.stand in
        record {
          trees = record {
            sorts = p.sorts;
            stand = p.stand;
            counted = n-is ∙ (says_of e).operands ∙ sym (sorts_count scope e.operands) ∙ p.counted;
          };
          is = sym one ∙ p.is;
        }

    -- They stand behind the node.
    pub operands_ready : NodeAt forms signatures column node whole → SortedTrees forms column (node + 1) n
    operands_ready e = (ready e).trees

    -- The sort of its tree is that of its item over theirs.
    over_operands : (e : NodeAt forms signatures column node whole)
        → sort_number (item_sort e.given.scope e.item (ready e).trees.sorts)
        ≡ sort_number (tree_sort e.given.scope e.item (form_sorts e.given.scope e.operands))
    unfolding sort_over
    over_operands e = rw (ready e).is

    module _ {code value : ℕ} (code_is : code ≡ code_at forms node) (value_is : value ≡ value_at forms node) where
      -- The node is an operator.
      pub operator_node : {kind operator r : ℕ} → kind ≡ kind_of code → kind ≡ operator_kind → operator ≡ head_of code
          → OperatorGives forms column (node + 1) n operator value r → NodeGives forms signatures column node whole r
      operator_node kind_is k head w e =
          let says = says_of e in
          let c : code ≡ item_code e.item = code_is ∙ says.code in
          let v : value ≡ item_value e.item = value_is ∙ says.value in
          let q = operator_item e.given.scope e.item (told_at e) (ap kind_of (sym c) ∙ sym kind_is ∙ k) (ready e).trees.sorts in
          (rw (head, c, v) at (w (ready e).trees)) ∙ ap sort_number (sym q) ∙ over_operands e

      module _ {kind : ℕ} (kind_is : kind ≡ kind_of code) (k : is_called kind ≡ true) {row : ℕ} (row_is : row ≡ first_row kind) where
        -- The node applies a function or is a non-terminal.
        called_at : (e : NodeAt forms signatures column node whole) → Callable signatures e.given.scope e.item (row + value)
        called_at e =
            let says = says_of e in
            let c : code ≡ item_code e.item = code_is ∙ says.code in
            let v : value ≡ item_value e.item = value_is ∙ says.value in
            let same : kind ≡ kind_of (item_code e.item) = kind_is ∙ ap kind_of c in
            rw (row_is, same, v) (callable e.given e.item (real_at e) (rw same at k))

        -- Its row is one of the table.
        pub row_low : NodeAt forms signatures column node whole → row + value < all_rows
        row_low e = (called_at e).low

        -- Its row can be held against the operands.
        pub call_ready : NodeAt forms signatures column node whole → Called forms signatures column (node + 1) n (row + value)
        call_ready e =
            let q = called_at e in
            record { trees = (ready e).trees; by = q.by; row_is = q.row_is; low = q.low }

        -- It has the sort that its row gives.
        pub called_node : {r : ℕ} → CalledGives forms signatures column (node + 1) n (row + value) r → NodeGives forms signatures column node whole r
        unfolding call_ready
        called_node w e = w (call_ready e) ∙ ap sort_number (sym ((called_at e).gives (ready e).trees.sorts)) ∙ over_operands e

    -- The node is a literal, a name, `(Constant σ)` or `(Variable σ)`.
    pub leaf_node : {code kind sort r : ℕ} → code ≡ code_at forms node → kind ≡ kind_of code → (kind ≡ operator_kind → ⊥) → is_called kind ≡ false
        → sort ≡ head_of code → r ≡ cond (eqb n 0) (sort + 1) 0 → NodeGives forms signatures column node whole r
    leaf_node {code} {kind} code_is kind_is k l s w e =
        let c : code ≡ item_code e.item = code_is ∙ (says_of e).code in
        let t = (ready e).trees in
        let same : kind ≡ kind_of (item_code e.item) = kind_is ∙ ap kind_of c in
        let q = leaf_item e.given.scope e.item (real_at e) (λ o. k (same ∙ o)) (rw same at l) t.sorts in
        w ∙ leaf_number t.counted (s ∙ ap head_of c) ∙ ap sort_number (sym q) ∙ over_operands e

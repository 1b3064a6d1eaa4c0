-- The column of sorts: what stands in it for each node, and the trees that it tells of.
use Prim.Native.Nat.{ℕ, suc, ◌+◌, ◌-◌, ◌≤◌, ◌<◌}
use native.Mathlib.Nat.{add-zero}
use native.Mathlib.Omega.{arith}
use mathlib.Core.Path.{◌≡◌, refl, sym, ap, ◌∙◌}
use mathlib.Core.List.{List, ◌∷◌, ◌++◌, map, map-append}
use lib.ListN.{drop, get_or, length, length-append, length-drop, length-map, get_or-append}
use lib.Seq.{get_or-append-add, get_or-drop}
use Rattle.forest.proofs.Laws.{Tree, from_over, inside, size_from, size_tree}
use Rattle.forest.proofs.Lists.{drop_map}
use Rattle.forest.proofs.Nodes.{length_nodes, node_at}
use Rattle.forest.specs.Forest.{Forest, Node, join, nodes_of, none, tree}
use Rattle.forest.specs.code.Cursors.{from, size}
use Rattle.forest.specs.Tables.{over}
use Rattle.derivation.specs.Derivation.{Item}
use Rattle.derivation.specs.code.Tables.{form_table}
use Rattle.term_sorts.specs.Forms.{FormScope, form_sorts, tree_sort}
use Rattle.term_sorts.specs.code.Forms.{sort_column, sort_number}
use Rattle.term_sorts.specs.code.Nodes.{tree_sorts}
use Rattle.term_sorts.specs.code.Operands.{Stand}
use Rattle.term_sorts.proofs.NodeSorts.{form_says}

-- The number of the sort of a node's tree.
abbrev node_number : FormScope → Node Item → ℕ
node_number scope n = sort_number (tree_sort scope n.label (form_sorts scope n.operands))

-- The column has the number of each node, in the order of the text.
column_nodes : (scope : FormScope) (F : Forest Item) → sort_column scope F ≡ map (node_number scope) (nodes_of F)
unfolding sort_column nodes_of
column_nodes scope none = refl
column_nodes scope (tree i ops rest) = rw (column_nodes scope ops, column_nodes scope rest, map-append (node_number scope))

-- It has as many numbers as there are nodes.
pub column_length : (scope : FormScope) (F : Forest Item) → length (sort_column scope F) ≡ size F
column_length scope F = ap length (column_nodes scope F) ∙ length-map (nodes_of F) (node_number scope) ∙ length_nodes F

-- What stands at the front of a list at an index, by what stands from there on.
here_of : (l : List ℕ) (p x : ℕ) (more : List ℕ) → drop p l ≡ x ∷ more → get_or l p 0 ≡ x
here_of l p x more e = ap (λ (n : ℕ). get_or l n 0) (sym (add-zero p)) ∙ sym (get_or-drop p l 0 0) ∙ ap (λ (k : List ℕ). get_or k 0 0) e

-- What is written over a list, at a cursor, and past what is written.
pub column_at : (scope : FormScope) (F : Forest Item) (lent : List ℕ) (p : ℕ) (i : Item) (ops rest : Forest Item) → from F p ≡ tree i ops rest
    → get_or (over (sort_column scope F) lent) p 0 ≡ sort_number (tree_sort scope i (form_sorts scope ops))
column_at scope F lent p i ops rest e =
    let at = ap (drop p) (column_nodes scope F) ∙ drop_map (node_number scope) p (nodes_of F) ∙ ap (map (node_number scope)) (node_at F p i ops rest e) in
    let low : p < length (sort_column scope F) = omega (arith, column_length scope F, inside F p (record { l = i; ops = ops; rest = rest; is = e })) in
    get_or-append (sort_column scope F) (drop (length (sort_column scope F)) lent) 0 p low ∙ here_of (sort_column scope F) p _ _ at

-- Past what is written over a list the list is as it was.
pub over_past : (front lent : List ℕ) (j : ℕ) → length front ≤ j → get_or (over front lent) j 0 ≡ get_or lent j 0
over_past front lent j h = go (j - length front) (omega arith)
  where
    go : (m : ℕ) → j ≡ length front + m → get_or (over front lent) j 0 ≡ get_or lent j 0
    go m e = rw (e, get_or-append-add, get_or-drop)

-- A list that is written over keeps its length.
pub over_length : (front lent : List ℕ) → length front ≤ length lent → length (over front lent) ≡ length lent
over_length front lent h = simp (length-append, length-drop) (omega arith)

-- Trees that stand at a cursor, told by a column that is right from there on.
module _ {forms : List ℕ} (column lent : List ℕ) (scope : FormScope) (F : Forest Item) (rest : List ℕ) (table : forms ≡ form_table F ++ rest)
    (room : size F ≤ length column) where
  -- Each has its number and its size in the tables.
  pub trees_stand : (ops more : Forest Item) (p : ℕ) → from F p ≡ join ops more
      → ((j : ℕ) → p ≤ j → get_or column j 0 ≡ get_or (over (sort_column scope F) lent) j 0)
      → Stand sort_number forms column p (tree_sorts scope ops)
  unfolding Stand tree_sorts join
  trees_stand none more p e right = tt
  trees_stand (tree i ops others) more p e right =
      let says = form_says F rest table e in
      let t : Tree (from F p) = record { l = i; ops = ops; rest = join others more; is = e } in
      rw says.size (
        right p (omega arith) ∙ column_at scope F lent p i ops (join others more) e,
        omega (arith, room, size_from F p, size_tree t),
        trees_stand others more (p + suc (size ops)) (from_over F p i ops (join others more) e) (λ j h. right j (omega arith)),
      )

-- A body in a table of nodes: the rows of the term that begins at a node.
use Prim.Native.Nat.{ℕ, suc, ◌+◌, ◌*◌, ◌≤◌}
use native.Mathlib.Omega.{arith}
use mathlib.Core.Path.{◌≡◌, refl, sym, ap, ◌∙◌, subst}
use mathlib.Core.List.{List, ◌++◌, append_assoc}
use lib.ListN.{drop, length, length-append, take, take-append-drop}
use lib.Seq.{drop_at, length-take-le, take_at}
use Rattle.forest.specs.Forest.{count, join, nodes_of, none, tree}
use Rattle.forest.specs.code.Cursors.{size}
use Rattle.forest.specs.Tables.{rows}
use Rattle.forest.proofs.Laws.{size_from}
use Rattle.forest.proofs.Nodes.{length_nodes, nodes_from, nodes_join}
use Rattle.forest.proofs.Rows.{length_rows, rows_append}
use Rattle.terms.specs.Labels.{Label, Terms}
use Rattle.terms.specs.code.Nodes.{AllPlain, node_row, node_table, row_width, size_at}
use Rattle.terms.proofs.Bodies.{plain_from, says}
use Rattle.evaluation.specs.code.Tables.{TermStands}
use Rattle.script.proofs.OneTermMore.{length_table}

-- A table past its first i rows.
rows_past : {A : Type 0} (row : A → List ℕ) (width : ℕ) → ((a : A) → length (row a) ≡ width) → (xs : List A) (rest : List ℕ) (i : ℕ) → i ≤ length xs
    → drop (width * i) (rows row xs ++ rest) ≡ rows row (drop i xs) ++ rest
rows_past row width wide xs rest i h =
    let long : length (rows row (take i xs)) ≡ width * i = length_rows row width wide (take i xs) ∙ ap (λ (n : ℕ). width * n) (length-take-le i xs h) in
    let parts : rows row xs ≡ rows row (take i xs) ++ rows row (drop i xs) =
    ap (rows row) (sym (take-append-drop i xs)) ∙ rows_append row width wide (take i xs) (drop i xs) in
    rw (parts, append_assoc) (drop_at (rows row (take i xs)) (rows row (drop i xs) ++ rest) (width * i) long)

-- A tree's nodes, then those of the trees behind it.
nodes_first : (l : Label) (ops more : Terms) → nodes_of (tree l ops more) ≡ nodes_of (tree l ops none) ++ nodes_of more
unfolding join
nodes_first l ops more = nodes_join (tree l ops none) more

-- A tree alone has a node more than its operands.
size_alone : (l : Label) (ops : Terms) → size (tree l ops none) ≡ suc (size ops)
unfolding size
size_alone l ops = omega arith

module _ {all : Terms} {i : ℕ} {t : Terms} (s : TermStands all i t) where
  -- It is one term.
  pub body_one : count t ≡ 1
  unfolding count
  body_one = ap count s.is

  -- Its labels are told by their numbers where those of all terms are.
  pub body_plain : AllPlain all → AllPlain t
  unfolding AllPlain
  body_plain p = let h = subst AllPlain s.at (plain_from all i p) in rw s.is (h.0, h.1, tt)

  -- It ends within the terms.
  body_ends : i + size t ≤ size all
  unfolding size
  body_ends = omega (arith, size_from all i, ap size s.at, ap size s.is)

  module _ {nodes : List ℕ} (rest : List ℕ) (are : nodes ≡ node_table all ++ rest) where
    -- The table has its size at its first node.
    pub body_size : size_at nodes i ≡ size t
    body_size =
        (says all rest i s.label s.operands s.rest are s.at).size
        ∙ sym (ap size s.is ∙ size_alone s.label s.operands)

    -- Its rows end within the table.
    pub body_within : row_width * (i + size t) ≤ length nodes
    body_within = omega (arith, body_ends, ap length are, length-append (node_table all) rest, length_table all)

    -- Its rows are its table.
    pub body_rows : take (row_width * size t) (drop (row_width * i) nodes) ≡ node_table t
    unfolding node_table
    body_rows =
        let low : i ≤ length (nodes_of all) = omega (arith, body_ends, length_nodes all) in
        let left : drop i (nodes_of all) ≡ nodes_of t ++ nodes_of s.rest =
        nodes_from all i ∙ ap nodes_of s.at ∙ nodes_first s.label s.operands s.rest
        ∙ ap (λ (x : Terms). nodes_of x ++ nodes_of s.rest) (sym s.is) in
        let past : drop (row_width * i) nodes ≡ rows node_row (nodes_of t) ++ (rows node_row (nodes_of s.rest) ++ rest) =
        ap (drop (row_width * i)) are ∙ rows_past node_row row_width (λ n. refl) (nodes_of all) rest i low
        ∙ rw (left, rows_append node_row row_width (λ n. refl) (nodes_of t) (nodes_of s.rest), append_assoc) in
        rw past (take_at (rows node_row (nodes_of t)) (rows node_row (nodes_of s.rest) ++ rest) (row_width * size t) (length_table t))

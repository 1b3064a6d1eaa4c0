-- Cursors into the terms that a node table holds.
use Prim.Native.Nat.{ℕ, suc, ◌+◌, ◌*◌, ◌≤◌}
use native.Mathlib.Omega.{arith}
use mathlib.Core.Path.{◌≡◌, refl, ap, ◌∙◌}
use mathlib.Core.List.{List, ◌++◌}
use lib.ListN.{length, length-append}
use Rattle.forest.proofs.Laws.{join_assoc, size_from, from_one}
use Rattle.forest.proofs.Nodes.{length_nodes}
use Rattle.forest.proofs.Rows.{length_rows}
use Rattle.forest.specs.Forest.{join, nodes_of, tree}
use Rattle.forest.specs.code.Cursors.{from, size}
use Rattle.terms.specs.Labels.{Label, Terms}
use Rattle.terms.specs.code.Nodes.{node_row, node_table, row_width}

-- The node past a cursor is the first of the operands, or the next tree.
pub cursor_next : (all : Terms) (j : ℕ) (l : Label) (ops more rest : Terms) → from all j ≡ tree l ops (join more rest)
    → from all (j + 1) ≡ join (join ops more) rest
cursor_next all j l ops more rest e = from_one all j l ops (join more rest) e ∙ rw join_assoc

-- A tree at a cursor ends within the table.
pub tree_within : (all : Terms) {nodes : List ℕ} (behind : List ℕ) (i : ℕ) (l : Label) (ops more : Terms) → nodes ≡ node_table all ++ behind
    → from all i ≡ tree l ops more → i + suc (size ops) ≤ length nodes
unfolding node_table size
tree_within all {nodes} behind i l ops more t e =
    let rows = length_rows node_row row_width (λ n. refl) (nodes_of all) in
    let long : length nodes ≡ row_width * size all + length behind = ap length t ∙ rw (length-append, rows, length_nodes) in
    omega (arith, ap size e, size_from all i)

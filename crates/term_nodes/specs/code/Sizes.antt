-- What counting the nodes of trees asks and gives.
use Rattle.std.specs.Prelude.{ℕ, zero, suc, ◌+◌, List, [], ◌∷◌, ◌++◌, ◌≡◌}
use Rattle.forest.specs.Forest.{Forest, Node, nodes_of, tree}
use Rattle.forest.specs.code.Cursors.{from, size}
use Rattle.forest.specs.Tables.{rows}
use Rattle.term_nodes.specs.Terms.{Raw}
use Rattle.term_nodes.specs.code.Table.{raw_row, raw_table, uncounted, uncounted_table}

-- A table of the nodes of terms, not counted yet.
pub record Counting (raw : List ℕ) (count : ℕ) : Type 0 where
  pub F : Forest Raw
  pub rest : List ℕ
  pub is : raw ≡ uncounted_table F ++ rest
  pub counted : count ≡ size F

-- The nodes are counted.
abbrev pub Counted : {raw : List ℕ} {count : ℕ} → Counting raw count → (rawAfter : List ℕ) → Type 0
Counted p rawAfter = rawAfter ≡ raw_table p.F ++ p.rest

-- The table of nodes of which those from `at` on are counted.
unfoldable pub part_table : (at : ℕ) → List (Node Raw) → List ℕ
part_table zero nodes = rows raw_row nodes
part_table (suc at) [] = []
part_table (suc at) (n ∷ nodes) = uncounted n ++ part_table at nodes

-- A tree stands at a node, and the nodes behind that one are counted.
pub record TreeAt (raw : List ℕ) (node : ℕ) : Type 0 where
  pub F : Forest Raw
  pub rest : List ℕ
  pub is : raw ≡ part_table (suc node) (nodes_of F) ++ rest
  pub label : Raw
  pub operands : Forest Raw
  pub more : Forest Raw
  pub here : from F node ≡ tree label operands more

-- The node past that tree.
abbrev pub PastTree : {raw : List ℕ} {node : ℕ} → TreeAt raw node → (r : ℕ) → Type 0
PastTree {node = node} p r = r ≡ node + suc (size p.operands)

-- The nodes of trees, counted from the last node to the first.
use Prim.Native.Nat.{ℕ, zero, suc, ◌+◌, ◌-◌, ◌*◌, ◌≤◌, ◌<◌}
use native.Mathlib.Nat.{zero-add}
use native.Mathlib.Omega.{arith}
use mathlib.Core.Path.{◌≡◌, refl, ap, ◌∙◌}
use mathlib.Core.List.{List, [], ◌∷◌, ◌++◌}
use lib.ListN.{length, drop, get_or, set, length-append, length-set, get_or-append}
use Rattle.forest.specs.Forest.{Forest, Node, count, join, nodes_of, tree}
use Rattle.forest.specs.code.Cursors.{from, size}
use Rattle.forest.specs.code.Rows.{number_at}
use Rattle.forest.specs.Tables.{rows}
use Rattle.forest.proofs.Laws.{count_tree, count_zero, from_one, from_over, size_from, size_tree, tree_at, tree_of_count}
use Rattle.forest.proofs.Lists.{within}
use Rattle.forest.proofs.Nodes.{length_nodes, node_at}
use Rattle.forest.proofs.Rows.{length_rows, row_at}
use Rattle.term_nodes.specs.code.Table.{operands_at, raw_row, raw_table, row_width, size_at, uncounted, uncounted_table, head_word}
use Rattle.term_nodes.specs.Terms.{Raw, first_word}
use Rattle.term_nodes.specs.code.Sizes.{Counted, Counting, PastTree, TreeAt, part_table}

pub wide : (n : Node Raw) → length (raw_row n) ≡ row_width
wide n = refl

skip : (a b c d : ℕ) (table : List ℕ) (i column : ℕ) → number_at row_width (a ∷ b ∷ c ∷ d ∷ table) (suc i) column ≡ number_at row_width table i column
unfolding number_at
skip a b c d table i column =
    let e : row_width * suc i + column ≡ suc (suc (suc (suc (row_width * i + column)))) = omega arith in
    ap (λ (k : ℕ). get_or (a ∷ b ∷ c ∷ d ∷ table) k 0) e

first-row : (row table : List ℕ) (column : ℕ) → column < length row → number_at row_width (row ++ table) 0 column ≡ get_or row column 0
unfolding number_at
first-row row table column h = rw zero-add (get_or-append row table 0 column h)

-- the row of node i, where those from `at` on are counted
row_of : (at i : ℕ) → Node Raw → List ℕ
row_of zero i n = raw_row n
row_of (suc at) zero n = uncounted n
row_of (suc at) (suc i) n = row_of at i n

part_at : (at : ℕ) (nodes : List (Node Raw)) (rest : List ℕ) (i column : ℕ) (n : Node Raw) (more : List (Node Raw))
    → drop i nodes ≡ n ∷ more → column < row_width → number_at row_width (part_table at nodes ++ rest) i column ≡ get_or (row_of at i n) column 0
unfolding part_table row_of
part_at zero nodes rest i column n more e h = row_at raw_row row_width wide nodes rest i column n more e h
part_at (suc at) [] rest i column n more e h = absurd (omega (arith, within [] i n more e))
part_at (suc at) (x ∷ nodes) rest zero column n more e h =
    let q : x ≡ n = cc in
    first-row (uncounted x) (part_table at nodes ++ rest) column h ∙ ap (λ (y : Node Raw). get_or (uncounted y) column 0) q
part_at (suc at) (x ∷ nodes) rest (suc i) column n more e h = skip _ _ _ _ (part_table at nodes ++ rest) i column ∙ part_at at nodes rest i column n more e h

operands_of : (at i : ℕ) (n : Node Raw) → get_or (row_of at i n) 2 0 ≡ count n.operands
unfolding row_of
operands_of zero i n = refl
operands_of (suc at) zero n = refl
operands_of (suc at) (suc i) n = operands_of at i n

size_of : (at i : ℕ) (n : Node Raw) → at ≤ i → get_or (row_of at i n) 3 0 ≡ suc (size n.operands)
unfolding row_of
size_of zero i n h = refl
size_of (suc at) zero n h = absurd (omega arith)
size_of (suc at) (suc i) n h = size_of at i n (omega arith)

-- one node more is counted
count_row : (i : ℕ) (nodes : List (Node Raw)) (rest : List ℕ) (n : Node Raw) (more : List (Node Raw)) → drop i nodes ≡ n ∷ more
    → set (part_table (suc i) nodes ++ rest) (row_width * i + 3) (suc (size n.operands)) ≡ part_table i nodes ++ rest
unfolding part_table rows
count_row i [] rest n more e = absurd (omega (arith, within [] i n more e))
count_row zero (x ∷ nodes) rest n more e = let q : x ≡ n = cc in rw q
count_row (suc i) (x ∷ nodes) rest n more e =
    let q : row_width * suc i + 3 ≡ suc (suc (suc (suc (row_width * i + 3)))) = omega arith in
    rw q (ap (λ (t : List ℕ). first_word x.label ∷ head_word x.label ∷ count x.operands ∷ 0 ∷ t) (count_row i nodes rest n more e))

part_long : (at : ℕ) (nodes : List (Node Raw)) → length (part_table at nodes) ≡ row_width * length nodes
unfolding part_table
part_long zero nodes = length_rows raw_row row_width wide nodes
part_long (suc at) [] = refl
part_long (suc at) (x ∷ nodes) = let r = part_long at nodes in omega arith

-- ---- the node past a tree

-- a tree is within the table
tree_room : {raw : List ℕ} {node : ℕ} (p : TreeAt raw node) → row_width * (node + suc (size p.operands)) ≤ length raw
tree_room {raw} {node} p =
    let all = size_from p.F node in
    let tree-size = size_tree (record { l = p.label; ops = p.operands; rest = p.more; is = p.here }) in
    let long = part_long (suc node) (nodes_of p.F) in
    rw (p.is, length-append, long, length_nodes p.F) (omega arith)

-- so many of the operands of a node are passed, and the others are left
pub record Passing {raw : List ℕ} {node : ℕ} (p : TreeAt raw node) (next passed : ℕ) : Type 0 where
  pub left : Forest Raw
  pub reached : from p.F next ≡ join left p.more
  pub behind : node < next
  pub counted : passed + count left ≡ count p.operands
  pub sized : next + size left ≡ node + suc (size p.operands)

pub record Passes (raw : List ℕ) (node next passed : ℕ) : Type 0 where
  pub each : (p : TreeAt raw node) → Passing p next passed

module _ {raw : List ℕ} {node : ℕ} where
  pub node_fits : TreeAt raw node → row_width * (node + 1) ≤ length raw
  node_fits p = omega (arith, tree_room p)

  pub passes_begins : Passes raw node (node + 1) 0
  passes_begins = record { each = λ p. begins p }
    where
      begins : (p : TreeAt raw node) → Passing p (node + 1) 0
      begins p = record {
        left = p.operands;
        reached = from_one p.F node _ _ _ p.here;
        behind = omega arith;
        counted = omega arith;
        sized = omega arith;
      }

  module _ {operands : ℕ} (eo : operands ≡ operands_at raw node) {next passed : ℕ} (passes : Passes raw node next passed) where
    operands_are : (p : TreeAt raw node) → operands ≡ count p.operands
    operands_are p =
        let here = node_at p.F node _ _ _ p.here in
        let row = part_at (suc node) (nodes_of p.F) p.rest node 2 _ _ here (omega arith) in
        eo ∙ ap (λ (t : List ℕ). operands_at t node) p.is ∙ row ∙ operands_of (suc node) node _

    pub passes_ends : operands ≤ passed → (p : TreeAt raw node) → PastTree p next
    unfolding size
    passes_ends h p =
        let q = passes.each p in
        let gone = count_zero q.left (omega (arith, operands_are p, q.counted)) in
        omega (arith, q.sized, ap size gone)

    module _ (h : passed < operands) {step : ℕ} (es : step ≡ size_at raw next) where
      -- the next operand, and where it ends
      record Operand (p : TreeAt raw node) : Type 0 where
        pub ops : Forest Raw
        pub rest : Forest Raw
        pub stepped : step ≡ suc (size ops)
        pub reached : from p.F (next + step) ≡ join rest p.more
        pub counted : count (passes.each p).left ≡ suc (count rest)
        pub sized : size (passes.each p).left ≡ suc (size ops + size rest)

      operand : (p : TreeAt raw node) → Operand p
      unfolding join
      operand p =
          let q = passes.each p in
          let t = tree_of_count q.left (omega (arith, operands_are p, q.counted)) in
          let here : from p.F next ≡ tree t.l t.ops (join t.rest p.more) = q.reached ∙ ap (λ (x : Forest Raw). join x p.more) t.is in
          let row = part_at (suc node) (nodes_of p.F) p.rest next 3 _ _ (node_at p.F next _ _ _ here) (omega arith) in
          let counted = size_of (suc node) next _ (omega (arith, q.behind)) in
          let stepped : step ≡ suc (size t.ops) = es ∙ ap (λ (x : List ℕ). size_at x next) p.is ∙ row ∙ counted in
          record {
            ops = t.ops;
            rest = t.rest;
            stepped = stepped;
            reached = rw stepped (from_over p.F next _ _ _ here);
            counted = count_tree t;
            sized = size_tree t;
          }

      pub step_fits : TreeAt raw node → row_width * (next + step) ≤ length raw
      step_fits p = let o = operand p in omega (arith, tree_room p, (passes.each p).sized, o.sized, o.stepped)

      pub passes_goes : Passes raw node (next + step) (passed + 1)
      passes_goes = record { each = goes }
        where
          goes : (p : TreeAt raw node) → Passing p (next + step) (passed + 1)
          goes p =
              let q = passes.each p in
              let o = operand p in
              record {
                left = o.rest;
                reached = o.reached;
                behind = omega (arith, q.behind);
                counted = omega (arith, q.counted, o.counted);
                sized = omega (arith, q.sized, o.sized, o.stepped);
              }

-- ---- the nodes from the last to the first

part_all : (nodes : List (Node Raw)) → part_table (length nodes) nodes ≡ rows uncounted nodes
unfolding part_table rows
part_all [] = refl
part_all (x ∷ nodes) = ap (λ (t : List ℕ). uncounted x ++ t) (part_all nodes)

-- the nodes from `node` on are counted
pub record Sweep (raw₀ : List ℕ) (count : ℕ) (raw : List ℕ) (node : ℕ) : Type 0 where
  pub reached : node ≤ count
  pub long : length raw ≡ length raw₀
  pub room : row_width * count ≤ length raw₀
  pub is : (p : Counting raw₀ count) → raw ≡ part_table node (nodes_of p.F) ++ p.rest

pub sweep_begins : {raw : List ℕ} {count : ℕ} → Counting raw count → Sweep raw count raw count
unfolding uncounted_table
sweep_begins {raw} {count} given = record {
  reached = omega arith;
  long = refl;
  room =
      rw (given.is, length-append, length_rows uncounted row_width (λ n. refl) (nodes_of given.F), length_nodes given.F)
      (omega (arith, given.counted));
  is = λ p. rw (p.counted, ← length_nodes p.F, part_all (nodes_of p.F)) p.is;
}

pub sweep_ends : {raw₀ : List ℕ} {count : ℕ} {raw : List ℕ} {node : ℕ} → Sweep raw₀ count raw node → node ≤ 0 → (p : Counting raw₀ count) → Counted p raw
unfolding part_table raw_table
sweep_ends {node = node} sweep h p = let z : node ≡ 0 = omega arith in sweep.is p ∙ rw z

module _ {raw₀ : List ℕ} {count : ℕ} {raw : List ℕ} {node : ℕ} (sweep : Sweep raw₀ count raw node) (h : 0 < node) where
  abbrev pub sweep_asks : Counting raw₀ count → TreeAt raw (node - 1)
  sweep_asks p =
      let t = tree_at p.F (node - 1) (omega (arith, sweep.reached, p.counted)) in
      let back : suc (node - 1) ≡ node = omega arith in
      record { F = p.F; rest = p.rest; is = rw back (sweep.is p); label = t.l; operands = t.ops; more = t.rest; here = t.is }

  module _ {past : ℕ} (ep : (t : TreeAt raw (node - 1)) → PastTree t past) where
    pub sweep_less : Counting raw₀ count → node - 1 ≤ past
    sweep_less p = omega (arith, ep (sweep_asks p))

    pub sweep_goes : Sweep raw₀ count (set raw (row_width * (node - 1) + 3) (past - (node - 1))) (node - 1)
    sweep_goes = record { reached = omega (arith, sweep.reached); long = length-set raw _ _ ∙ sweep.long; room = sweep.room; is = goes }
      where
        goes : (p : Counting raw₀ count) → set raw (row_width * (node - 1) + 3) (past - (node - 1)) ≡ part_table (node - 1) (nodes_of p.F) ++ p.rest
        goes p =
            let t = sweep_asks p in
            let counted : past - (node - 1) ≡ suc (size t.operands) = omega (arith, ep t) in
            rw (counted, t.is) (count_row (node - 1) (nodes_of p.F) p.rest _ _ (node_at p.F (node - 1) _ _ _ t.here))

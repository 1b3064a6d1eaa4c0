-- What the numbers of the tables say of the nodes of the right sides and of the body.
use Prim.Native.Nat.{ℕ, suc, ◌+◌, ◌*◌, ◌<◌}
use mathlib.Core.Path.{◌≡◌, refl, sym, ap, ◌∙◌}
use mathlib.Core.List.{List, [], append-nil}
use lib.Dec.{lit<}
use lib.ListN.{get_or, length}
use Rattle.forest.specs.Forest.{Forest, count, nodes_of, tree}
use Rattle.forest.specs.code.Cursors.{from, size}
use Rattle.forest.specs.code.Rows.{number_at}
use Rattle.forest.specs.Tables.{rows}
use Rattle.forest.proofs.Nodes.{length_nodes, node_at}
use Rattle.forest.proofs.Rows.{length_rows, row_at}
use Rattle.terms.specs.Labels.{Label, Terms}
use Rattle.terms.specs.code.Nodes.{code_at, node_row, node_table, operands_at, row_width, size_at, value_at}
use Rattle.terms.proofs.Bodies.{Says, says}
use Rattle.derivation.specs.Derivation.{Item}
use Rattle.derivation.specs.code.Tables.{form_table, item_code, item_row, item_value}

-- the table of forms says of node p: its item is i and its operands are ops
pub record ItemSays (forms : List ℕ) (p : ℕ) (i : Item) (ops : Forest Item) : Type 0 where
  pub code : code_at forms p ≡ item_code i
  pub value : value_at forms p ≡ item_value i
  pub operands : operands_at forms p ≡ count ops
  pub size : size_at forms p ≡ suc (size ops)

pub item_says : {forms : List ℕ} (all : Forest Item) → forms ≡ form_table all → {p : ℕ} {i : Item} {ops more : Forest Item}
    → from all p ≡ tree i ops more → ItemSays forms p i ops
unfolding form_table
item_says all t {p} {i} {ops} {more} e =
    rw t (record { code = column 0 (lit< tt); value = column 1 (lit< tt); operands = column 2 (lit< tt); size = column 3 (lit< tt) })
  where
    column : (k : ℕ) → k < row_width → number_at row_width (rows item_row (nodes_of all)) p k ≡ get_or (item_row (record { label = i; operands = ops })) k 0
    column k h =
        ap (λ (x : List ℕ). number_at row_width x p k) (sym (append-nil (rows item_row (nodes_of all))))
        ∙ row_at item_row row_width (λ n. refl) (nodes_of all) [] p k _ _ (node_at all p i ops more e) h

-- the table of the body says of node j what stands there
pub body_says : {body : List ℕ} (all : Terms) → body ≡ node_table all → {j : ℕ} {l : Label} {ops more : Terms} → from all j ≡ tree l ops more
    → Says body j l ops
body_says all t {j} {l} {ops} {more} e = says all [] j l ops more (t ∙ sym (append-nil (node_table all))) e

-- how many nodes a tree and those behind it have
pub size_node : {L : Type 0} (l : L) (ps qs : Forest L) → size (tree l ps qs) ≡ suc (size ps + size qs)
unfolding size
size_node l ps qs = refl

-- how long the tables are
pub forms_length : {forms : List ℕ} (all : Forest Item) → forms ≡ form_table all → length forms ≡ row_width * size all
unfolding form_table
forms_length all t = ap length t ∙ length_rows item_row row_width (λ n. refl) (nodes_of all) ∙ ap (λ (n : ℕ). row_width * n) (length_nodes all)

pub body_length : {body : List ℕ} (all : Terms) → body ≡ node_table all → length body ≡ row_width * size all
unfolding node_table
body_length all t = ap length t ∙ length_rows node_row row_width (λ n. refl) (nodes_of all) ∙ ap (λ (n : ℕ). row_width * n) (length_nodes all)

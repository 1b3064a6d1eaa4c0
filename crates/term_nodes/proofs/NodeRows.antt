-- The rows of nodes as they are gathered, each behind those before it.
use Prim.Native.Nat.{ℕ, suc, ◌+◌, ◌*◌, ◌≤◌}
use native.Mathlib.Omega.{arith}
use mathlib.Core.Path.{ap, ◌≡◌, refl, ◌∙◌}
use mathlib.Core.List.{List, [], ◌∷◌, ◌++◌, append_assoc}
use lib.ListN.{length, drop, set, length-append}
use lib.Seq.{drop-append-add, sets, sets-eq, take-append_seam}
use Rattle.forest.specs.Forest.{Node}
use Rattle.forest.specs.Tables.{rows}
use Rattle.forest.proofs.Rows.{length_rows, rows_append}
use Rattle.term_nodes.specs.code.Table.{row_width, uncounted}
use Rattle.term_nodes.specs.Terms.{Raw}

-- four numbers written one after the other
pub row_written : (l : List ℕ) (i a b c d : ℕ) → set (set (set (set l i a) (i + 1) b) (i + 2) c) (i + 3) d ≡ sets l i (a ∷ b ∷ c ∷ d ∷ [])
row_written l i a b c d =
    let one : i + 1 ≡ suc i = omega arith in
    let two : i + 2 ≡ suc (suc i) = omega arith in
    let three : i + 3 ≡ suc (suc (suc i)) = omega arith in
    rw (one, two, three)

-- the row of one node more, written behind those of the nodes
pub row_added : (raw : List ℕ) (nodes : List (Node Raw)) (rest : List ℕ) (n : Node Raw) (next : ℕ) (row : List ℕ)
    → raw ≡ rows uncounted nodes ++ rest → next ≡ length nodes → row ≡ uncounted n → row_width * next + row_width ≤ length raw
    → sets raw (row_width * next) row ≡ rows uncounted (nodes ++ n ∷ []) ++ drop row_width rest
unfolding rows
row_added raw nodes rest n next row is counted written room =
    let long = length_rows uncounted row_width (λ x. refl) nodes in
    let all : length raw ≡ length (rows uncounted nodes) + length rest = ap length is ∙ length-append (rows uncounted nodes) rest in
    let place : row_width * next ≡ length (rows uncounted nodes) = omega arith in
    ap (λ (l : List ℕ). sets l (row_width * next) row) is
    ∙ ap (λ (l : List ℕ). sets (rows uncounted nodes ++ rest) (row_width * next) l) written
    ∙ ap (λ (i : ℕ). sets (rows uncounted nodes ++ rest) i (uncounted n)) place
    ∙ sets-eq (uncounted n) (rows uncounted nodes ++ rest) (length (rows uncounted nodes)) (rw length-append (omega arith))
    ∙ rw (take-append_seam, drop-append-add (rows uncounted nodes) rest row_width, rows_append uncounted row_width (λ x. refl) nodes (n ∷ []), append_assoc)

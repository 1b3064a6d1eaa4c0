-- The first fault by nodes and by words: first words rise, so that the first node at fault has the least word.
use Prim.Native.Nat.{ℕ, suc, ◌+◌, ◌≤◌, ◌<◌, min}
use native.Mathlib.Omega.{arith}
use mathlib.Core.Path.{◌≡◌, refl, sym}
use mathlib.Core.Bool.{Bool, true, false, cond}
use mathlib.Core.List.{List, [], ◌++◌}
use mathlib.Core.Option.{Option, none as nothing, some}
use borrow.Author.Tests.{le-ltb, lt-ltb}
use lib.Dec.{ltb}
use Rattle.forest.specs.Forest.{Forest, join, nodes_of, none, tree}
use Rattle.forest.specs.code.Cursors.{from, size}
use Rattle.forest.proofs.Laws.{from_one, from_over}
use Rattle.forest.proofs.Nodes.{node_at}
use Rattle.forest.proofs.Rows.{row_at}
use Rattle.terms.specs.Sorts.{with_sort}
use Rattle.term_sorts.specs.Forms.{form_sorts, sorted, tree_sort}
use Rattle.term_nodes.specs.code.Table.{first_at, raw_row, raw_table, row_width}
use Rattle.term_sorts.specs.code.Forms.{fault_from}
use Rattle.term_nodes.specs.Terms.{Raw, first_word}
use Rattle.names.specs.Scopes.{View, forms_of, item_or, means}
use Rattle.term_faults.specs.Faults.{scope_of, term_fault}
use Rattle.term_faults.specs.code.Bodies.{Rising}
use Rattle.term_faults.proofs.Forms.{size_form}

-- The first word of the node at a cursor.
pub first-word : (F : Forest Raw) (rest : List ℕ) {raw : List ℕ} → raw ≡ raw_table F ++ rest → (node : ℕ) (r : Raw) (ops later : Forest Raw)
    → from F node ≡ tree r ops later → first_at raw node ≡ first_word r
unfolding raw_table
first-word F rest is node r ops later here =
    rw is (row_at raw_row row_width (λ n. refl) (nodes_of F) rest node 0 _ _ (node_at F node r ops later here) (omega arith))

-- The sorts of one tree are there just when its sort is.
sorted_alone : (t : Option ℕ) → sorted (with_sort t (some [])) ≡ sorted t
unfolding with_sort
sorted_alone nothing = refl
sorted_alone (some s) = refl

-- A word for each node; `count` is past every node and `nowhere` past every word.
module _ (word_at : ℕ → ℕ) (count nowhere : ℕ) where
  -- A node and a word say the same fault, at the nodes from `first` to before `end`, whose words are from `low` to before `high`; or both say that there is
  -- none.
  pub data Agree (first end low high : ℕ) (node word : ℕ) : Type 0 where
    clear : node ≡ count → word ≡ nowhere → Agree first end low high node word
    faulty : (at : ℕ) → node ≡ at → word ≡ word_at at → first ≤ at → at < end → low ≤ word_at at → word_at at < high → Agree first end low high node word

  -- A node, where a test fails.
  at_node : (test : Bool) {k end low high word : ℕ} → word_at k ≡ word → k < end → low ≤ word → word < high
      → Agree k end low high (cond test count k) (cond test nowhere word)
  at_node true e inside least most = clear refl refl
  at_node false {k} e inside least most = faulty k refl (sym e) (omega arith) inside (omega arith) (omega arith)

  module _ {end high : ℕ} (inside : end ≤ count) (below : high ≤ nowhere) where
    -- The lesser of two, of which the one stands before the other.
    lesser : {first middle past low mid node other word behind : ℕ} → Agree first middle low mid node word → Agree middle past mid high other behind
        → middle ≤ end → past ≤ end → mid ≤ high → first ≤ middle → low ≤ mid → Agree first end low high (min node other) (min word behind)
    lesser (clear x y) (clear u v) a b c d e = clear (omega arith) (omega arith)
    lesser (clear x y) (faulty at u v f k l h) a b c d e = faulty at (omega arith) (omega arith) (omega arith) (omega arith) (omega arith) (omega arith)
    lesser (faulty at x y f k l h) (clear u v) a b c d e = faulty at (omega arith) (omega arith) (omega arith) (omega arith) (omega arith) (omega arith)
    lesser (faulty at x y f k l h) (faulty to u v g m n o) a b c d e =
        faulty at (omega arith) (omega arith) (omega arith) (omega arith) (omega arith) (omega arith)

    -- The one, where it is a fault, else the other.
    either : {first begin past low least node other word behind : ℕ} → Agree begin past least high node word → Agree first end low high other behind
        → first ≤ begin → past ≤ end → low ≤ least → Agree first end low high (cond (ltb node count) node other) (cond (ltb word nowhere) word behind)
    either {node = node} {word = word} (clear x y) others a b c = rw (le-ltb node count (omega arith), le-ltb word nowhere (omega arith)) others
    either {node = node} {word = word} (faulty at x y f e l h) others a b c =
        rw (lt-ltb node count (omega arith), lt-ltb word nowhere (omega arith)) (faulty at x y (omega arith) (omega arith) (omega arith) h)

module _ (view : View) (count nowhere : ℕ) (whole : Forest Raw) (rest : List ℕ) {raw : List ℕ} (is : raw ≡ raw_table whole ++ rest) where
  -- The first fault of the terms from a node on, by nodes and by words.
  pub faults_agree : (k : ℕ) (F later : Forest Raw) (low high : ℕ) → from whole k ≡ join F later → k + size F ≤ count → high ≤ nowhere → Rising low high F
      → Agree (first_at raw) count nowhere k (k + size F) low high (fault_from (scope_of view) count k (forms_of view F)) (term_fault nowhere view F)
  unfolding Rising fault_from forms_of form_sorts join size term_fault
  faults_agree k none later low high here room below rising = clear refl refl
  faults_agree k (tree r ops others) later low high here room below rising =
      let mid = rising.0 in
      let least = rising.1 in
      let before = rising.2 in
      let most = rising.3 in
      let within = faults_agree (k + 1) ops (join others later) (suc (first_word r)) mid (from_one whole k r ops (join others later) here) (omega arith)
      (omega arith) rising.4
      in
      let behind = faults_agree (k + suc (size ops)) others later mid high (from_over whole k r ops (join others later) here) (omega arith) below rising.5 in
      let word = first-word whole rest is k r ops (join others later) here in
      let words = first_at raw in
      let test = sorted (tree_sort (scope_of view) (item_or (means view r)) (form_sorts (scope_of view) (forms_of view ops))) in
      let root : Agree words count nowhere k (k + suc (size ops)) low mid (cond test count k) (cond test nowhere (first_word r)) =
      at_node words count nowhere test word (omega arith) least before
      in
      let first = either words count nowhere (omega arith) (omega arith) within root (omega arith) (omega arith) (omega arith) in
      rw (size_form view ops, sorted_alone)
      (lesser words count nowhere (omega arith) below first behind (omega arith) (omega arith) most (omega arith) (omega arith))

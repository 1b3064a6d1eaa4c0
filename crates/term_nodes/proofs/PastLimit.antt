-- The node past the limit.
use Prim.Native.Nat.{ℕ, zero, suc, ◌+◌, ◌-◌, ◌≤◌, ◌<◌}
use native.Mathlib.Nat.{sub-zero}
use native.Mathlib.Omega.{arith}
use mathlib.Core.Path.{◌≡◌, refl, sym, ap, ap₂, ◌∙◌}
use mathlib.Core.Bool.{true, false, ◌||◌, not, or-true}
use mathlib.Core.List.{List, ◌∷◌, ◌++◌}
use borrow.Author.Tests.{eq-eqb, ne_eqb}
use lib.Dec.{eqb}
use lib.ListN.{get_or}
use Rattle.forest.specs.Forest.{Forest, Node, join, nodes_of, none, tree}
use Rattle.forest.specs.code.Cursors.{from, size}
use Rattle.forest.specs.code.Rows.{number_at}
use Rattle.forest.proofs.Laws.{from_one, from_past, size_from, size_join, size_zero, tree_at}
use Rattle.forest.proofs.Nodes.{node_at, nodes_join}
use Rattle.forest.proofs.Rows.{row_at}
use Rattle.lexemes.specs.code.Standing.{Source}
use Rattle.lexemes.specs.code.Table.{code_at, numeral_code}
use Rattle.term_nodes.specs.code.Table.{first_at, head_at, row_width, uncounted, uncounted_table, head_word}
use Rattle.term_nodes.specs.Terms.{Raw, constant, cut, decimal, first_word, is_node, node_word, number, pattern, word}
use Rattle.term_nodes.specs.code.Limits.{NodePast, TermNodes}
use Rattle.term_nodes.specs.code.Says.{AllSay, Says}

-- what is said of every node of two forests is said of every node of both
pub say_join : (s : Source) (a b : Forest Raw) → AllSay s a → AllSay s b → AllSay s (join a b)
unfolding AllSay join
say_join s none b x y = y
say_join s (tree r ops rest) b x y = (x.0, x.1, say_join s rest b x.2 y)

by_code : (head at code : ℕ) → (code ≡ numeral_code → ⊥) → not (eqb head at) || not (eqb code numeral_code) ≡ true
by_code head at code ne = rw (ne_eqb code numeral_code ne) (or-true (not (eqb head at)))

-- the test of a node, by what the words say of it
node_test : (s : Source) (r : Raw) → Says s r → not (eqb (head_word r) (first_word r)) || not (eqb (code_at s.lexemes (head_word r)) numeral_code) ≡ is_node r
node_test s (word at head name) y = by_code head at (code_at s.lexemes head) (λ e. omega (arith, y.coded))
node_test s (number at v) y = rw (eq-eqb at at refl, eq-eqb _ _ y)
node_test s (constant at width v) y = by_code at at (code_at s.lexemes at) (λ e. omega (arith, y.coded))
node_test s (decimal at head name width) y = rw (ne_eqb head at (λ e. omega (arith, y.here)))
node_test s (cut at head i j) y = rw (ne_eqb head at (λ e. omega (arith, y.later)))
node_test s (pattern at c sort held) y = rw (ne_eqb (at + 1) at (λ e. omega arith))

module _ (nowhere : ℕ) (x : Node Raw) (more : List (Node Raw)) where
  word_passed : (n : ℕ) → is_node x.label ≡ false → node_word nowhere n (x ∷ more) ≡ node_word nowhere n more
  unfolding node_word
  word_passed zero e = rw e
  word_passed (suc n) e = rw e

  word_here : is_node x.label ≡ true → node_word nowhere 0 (x ∷ more) ≡ first_word x.label
  unfolding node_word
  word_here e = rw e

  word_later : (n : ℕ) → is_node x.label ≡ true → node_word nowhere (suc n) (x ∷ more) ≡ node_word nowhere n more
  unfolding node_word
  word_later n e = rw e

-- number `column` of the node at a cursor
read : (F : Forest Raw) (rest : List ℕ) (node : ℕ) {l : Raw} {ops more : Forest Raw} → from F node ≡ tree l ops more
    → (column : ℕ) → column < row_width
    → number_at row_width (uncounted_table F ++ rest) node column ≡ get_or (uncounted (record { label = l; operands = ops })) column 0
unfolding uncounted_table
read F rest node here column small = row_at uncounted row_width (λ n. refl) (nodes_of F) rest node column _ _ (node_at F node _ _ _ here) small

-- what the rows hold from `node` on
pub record Cursor {lexemes raw : List ℕ} {first end : ℕ} (p : TermNodes lexemes raw first end) (node : ℕ) : Type 0 where
  pub left : Forest Raw
  pub is : from (join p.before p.F) node ≡ left
  pub say : AllSay p.source left

-- the node at the cursor, by its first word and the word that says what it is
pub record Here {lexemes raw : List ℕ} {first end : ℕ} {p : TermNodes lexemes raw first end} {node : ℕ} (c : Cursor p node) (at head : ℕ) : Type 0 where
  pub x : Node Raw
  pub next : Cursor p (node + 1)
  pub nodes : nodes_of c.left ≡ x ∷ nodes_of next.left
  pub begins : at ≡ first_word x.label
  pub heads : head ≡ head_word x.label
  pub says : Says p.source x.label

module _ {lexemes raw : List ℕ} {first end : ℕ} where
  -- at first there are all
  abbrev pub cursor_begins : (p : TermNodes lexemes raw first end) → Cursor p first
  cursor_begins p = record { left = p.F; is = rw p.begins (from_past p.before p.F); say = p.say }

  pub nodes_reached : TermNodes lexemes raw first end → first ≤ end
  nodes_reached p = omega (arith, p.begins, p.ends, size_join p.before p.F)

  module _ {p : TermNodes lexemes raw first end} {node : ℕ} (c : Cursor p node) where
    -- at the end there is none
    pub cursor_ends : end ≤ node → c.left ≡ none
    cursor_ends h =
        let all = size_from (join p.before p.F) node in
        size_zero c.left (omega (arith, ap size c.is, p.ends))

    pub cursor_here : node < end → {at head : ℕ} → at ≡ first_at raw node → head ≡ head_at raw node → Here c at head
    unfolding AllSay nodes_of
    cursor_here h {at} {head} ea eh =
        let F = join p.before p.F in
        let t = tree_at F node (omega (arith, p.ends)) in
        let left_is : c.left ≡ tree t.l t.ops t.rest = sym c.is ∙ t.is in
        let says : AllSay p.source (tree t.l t.ops t.rest) = rw left_is at c.say in
        record {
          x = record { label = t.l; operands = t.ops };
          next = record {
            left = join t.ops t.rest;
            is = from_one F node _ _ _ t.is;
            say = say_join p.source t.ops t.rest says.1 says.2;
          };
          nodes = rw (left_is, nodes_join);
          begins = ea ∙ rw p.is (read F p.rest node t.is 0 (omega arith));
          heads = eh ∙ rw p.is (read F p.rest node t.is 1 (omega arith));
          says = says.0;
        }

-- ---- the node past the limit

-- from `node` on, the node past the rest of the limit is the node past the limit
pub record Left {lexemes raw : List ℕ} {first end : ℕ} (p : TermNodes lexemes raw first end) (most nowhere node counted : ℕ) : Type 0 where
  pub cursor : Cursor p node
  pub same : node_word nowhere (most - counted) (nodes_of cursor.left) ≡ node_word nowhere most (nodes_of p.F)

pub record Seeking (lexemes raw : List ℕ) (first end most nowhere node counted : ℕ) : Type 0 where
  pub few : counted ≤ most
  pub reached : node ≤ end
  pub each : (p : TermNodes lexemes raw first end) → Left p most nowhere node counted

module _ {lexemes raw : List ℕ} {first end most nowhere : ℕ} where
  pub seek_begins : TermNodes lexemes raw first end → Seeking lexemes raw first end most nowhere first 0
  seek_begins given = record {
    few = omega arith;
    reached = nodes_reached given;
    each = λ p. record { cursor = cursor_begins p; same = rw sub-zero };
  }

  module _ {node counted : ℕ} (seeking : Seeking lexemes raw first end most nowhere node counted) where
    pub seek_ends : end ≤ node → (p : TermNodes lexemes raw first end) → NodePast p most nowhere nowhere
    unfolding node_word nodes_of
    seek_ends h p =
        let q = seeking.each p in
        ap (λ (F : Forest Raw). node_word nowhere (most - counted) (nodes_of F)) (sym (cursor_ends q.cursor h)) ∙ q.same

    module _ (h : node < end) {at head code : ℕ} (ea : at ≡ first_at raw node) (eh : head ≡ head_at raw node) (ec : code ≡ code_at lexemes head) where
      here : (p : TermNodes lexemes raw first end) → Here (seeking.each p).cursor at head
      here p = cursor_here (seeking.each p).cursor h ea eh

      tested : (p : TermNodes lexemes raw first end) → not (eqb head at) || not (eqb code numeral_code) ≡ is_node (here p).x.label
      tested p =
          let o = here p in
          let code_is : code ≡ code_at p.source.lexemes (head_word o.x.label) = ec ∙ ap₂ code_at (sym p.same) o.heads in
          ap₂ (λ (h a : ℕ). not (eqb h a) || not (eqb code numeral_code)) o.heads o.begins
          ∙ ap (λ (k : ℕ). not (eqb (head_word o.x.label) (first_word o.x.label)) || not (eqb k numeral_code)) code_is
          ∙ node_test p.source o.x.label o.says

      nodes-of : (p : TermNodes lexemes raw first end)
          → node_word nowhere (most - counted) ((here p).x ∷ nodes_of (here p).next.left) ≡ node_word nowhere most (nodes_of p.F)
      nodes-of p = rw (here p).nodes at (seeking.each p).same

      pub seek_finds : not (eqb head at) || not (eqb code numeral_code) ≡ true → counted ≡ most → (p : TermNodes lexemes raw first end)
          → NodePast p most nowhere at
      seek_finds e full p =
          let o = here p in
          let z : most - counted ≡ 0 = omega arith in
          o.begins ∙ sym (word_here nowhere o.x _ (sym (tested p) ∙ e)) ∙ rw z at (nodes-of p)

      pub seek_counts : not (eqb head at) || not (eqb code numeral_code) ≡ true → (counted ≡ most → ⊥) → {after : ℕ} → after ≡ counted + 1
          → Seeking lexemes raw first end most nowhere (node + 1) after
      seek_counts e more {after} more-is = record { few = omega (arith, seeking.few); reached = omega arith; each = goes }
        where
          goes : (p : TermNodes lexemes raw first end) → Left p most nowhere (node + 1) after
          goes p =
              let z : most - counted ≡ suc (most - after) = omega (arith, seeking.few) in
              record { cursor = (here p).next; same = sym (word_later nowhere (here p).x _ _ (sym (tested p) ∙ e)) ∙ rw z at (nodes-of p) }

      pub seek_skips : not (eqb head at) || not (eqb code numeral_code) ≡ false → {after : ℕ} → after ≡ counted
          → Seeking lexemes raw first end most nowhere (node + 1) after
      seek_skips e {after} same = record { few = omega (arith, seeking.few); reached = omega arith; each = goes }
        where
          goes : (p : TermNodes lexemes raw first end) → Left p most nowhere (node + 1) after
          goes p = record { cursor = (here p).next; same = rw same (sym (word_passed nowhere (here p).x _ _ (sym (tested p) ∙ e)) ∙ nodes-of p) }

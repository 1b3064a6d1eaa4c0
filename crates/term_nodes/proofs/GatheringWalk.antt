-- The walk that gathers the nodes of terms: what is left to gather are the nodes of what is pending.
use Prim.Native.Nat.{ℕ, ◌+◌, ◌-◌, ◌*◌, ◌≤◌, ◌<◌}
use native.Mathlib.Omega.{arith}
use mathlib.Core.Path.{◌≡◌, refl, sym, ap, ◌∙◌, subst}
use mathlib.Core.Bool.{Bool, true, false, cond, not, ◌&&◌, ◌||◌}
use mathlib.Core.List.{List, [], ◌∷◌, ◌++◌, append_assoc, append-nil}
use borrow.Author.Tests.{eq-eqb}
use lib.ListN.{length, drop, length-append}
use lib.Seq.{append_snoc, length-sets, sets}
use Rattle.forest.specs.Forest.{Node, count, join, nodes_of, none, tree}
use Rattle.forest.specs.Tables.{rows}
use Rattle.forest.proofs.Bools.{and_left, apart}
use Rattle.forest.proofs.Laws.{Tree}
use Rattle.forest.proofs.Nodes.{length_nodes, nodes_join}
use Rattle.words.specs.Trees.{Lexeme, keyword, list, literal, numeral, symbol, word_of}
use Rattle.forest.specs.Lists.{same_bytes}
use Rattle.lexemes.specs.Lists.{Items, inside, is, is_constant_word, is_keyword, is_list, item, name_of, numeral_of}
use Rattle.lexemes.specs.code.Standing.{Source, Stands}
use Rattle.lexemes.specs.code.Table.{close_code, code_at, code_of, next_at}
use Rattle.lexemes.proofs.ByCode.{not_close}
use Rattle.lexemes.proofs.Pending.{Pending, Turn, at_close, at_list, at_word, inner, level, outermost, pending_forward, turn}
use Rattle.lexemes.proofs.Standing.{forward, here, none_left}
use Rattle.shapes.specs.Shapes.{term_shapes}
use Rattle.shapes.proofs.TermWalk.{outer_terms}
use Rattle.term_nodes.specs.code.Table.{row_width, uncounted, uncounted_table, head_word, operands_of}
use Rattle.term_nodes.specs.Terms.{Raw, cut_by, decimal, first_word, headed_by, raw_of, raw_terms, word}
use Rattle.term_nodes.specs.code.Gather.{Gathered, Gathering, Onward, TermAt}
use Rattle.term_nodes.proofs.NodeRows.{row_added}
use Rattle.term_nodes.proofs.TermWords.{first_of, list_shape}
use Rattle.term_nodes.proofs.TermsAt.{Applied, applied}

-- ---- the nodes of what is pending

-- the nodes of the terms of several lists
pub all_nodes : List Items → List (Node Raw)
all_nodes [] = []
all_nodes (F ∷ more) = nodes_of (raw_terms false F) ++ all_nodes more

-- the node of an item
abbrev node_of : Lexeme → Items → Node Raw
node_of l ops = record { label = raw_of l ops; operands = operands_of ops }

front_node : (l : Lexeme) (ops more : Items) (outer : List Items)
    → all_nodes (tree l ops more ∷ outer) ≡ node_of l ops ∷ (nodes_of (operands_of ops) ++ all_nodes (more ∷ outer))
unfolding all_nodes nodes_of raw_terms
front_node l ops more outer = rw append_assoc

-- a term is followed by terms
more_terms : (l : Lexeme) (ops more : Items) (outer : List Items) → outer_terms (tree l ops more ∷ outer) ≡ true → outer_terms (more ∷ outer) ≡ true
unfolding list_shape term_shapes
more_terms l ops more outer =
    go (not (is_list l || is_keyword l) || list_shape ops) (term_shapes false more) (outer_terms outer)
  where
    go : (a b c : Bool) → a && b && c ≡ true → b && c ≡ true
    go true b c e = e
    go false b c e = apart e

-- ---- one step

headed_first : (at : ℕ) (head : Lexeme) (held ops : Items) → first_word (headed_by at head held ops) ≡ at
headed_first at (symbol a name) held ops = go (is "_" (symbol a name)) (is_constant_word (item 1 ops))
  where
    go : (b c : Bool)
        → first_word (cond b (cond c (decimal at (word_of (item 1 ops)) (name_of (item 1 ops)) (numeral_of (item 2 ops))) (cut_by at ops)) (word at a name)) ≡ at
    go true true = refl
    go true false = refl
    go false c = refl
headed_first at (list a close) held ops = refl
headed_first at (numeral a v) held ops = refl
headed_first at (keyword a name) held ops = refl
headed_first at (literal a width v written) held ops = refl

-- a node's first word is that of its item
pub term_first : (l : Lexeme) (ops : Items) → first_word (raw_of l ops) ≡ word_of l
term_first (symbol at name) ops = refl
term_first (numeral at v) ops = refl
term_first (keyword at name) ops = refl
term_first (literal at width v written) ops = refl
term_first (list at close) ops = headed_first at (item 0 ops) (inside 0 ops) ops

none_held : operands_of none ≡ none
unfolding item raw_terms same_bytes
none_held = refl

-- from a term that stands at word `at` the walk goes on at word r, where what is pending has the nodes that are left
record Step {lexemes : List ℕ} {at : ℕ} (x : TermAt lexemes at) (outer : List Items) (e r : ℕ) : Type 0 where
  pub items : Items
  pub around : List Items
  pub pending : Pending x.source r items around e
  pub shaped : outer_terms (items ∷ around) ≡ true
  pub ahead : at < r
  pub nodes : nodes_of (operands_of x.operands) ++ all_nodes (x.more ∷ outer) ≡ all_nodes (items ∷ around)

module _ {lexemes : List ℕ} {at : ℕ} (x : TermAt lexemes at) {outer : List Items} {e : ℕ} (terms : outer_terms (x.more ∷ outer) ≡ true)
    (onward : (j : ℕ) (others : Items) → Stands x.source j others x.end → Pending x.source j others outer e) where
  skip : {r : ℕ} → r ≡ next_at lexemes at → operands_of x.operands ≡ none → Step x outer e r
  unfolding nodes_of
  skip er no-operands =
      let h = here x.same x.stands in
      record {
        items = x.more;
        around = outer;
        pending = rw er (onward (next_at lexemes at) x.more h.rest);
        shaped = terms;
        ahead = omega (arith, h.ahead);
        nodes = rw no-operands;
      }

  enter : {r : ℕ} → r ≡ next_at lexemes (at + 1) → Applied x → Step x outer e r
  unfolding all_nodes
  enter er a =
      let h = here x.same x.stands in
      let behind = onward (a.opened.close + 1) x.more (rw (← a.opened.next) h.rest) in
      record {
        items = a.rest;
        around = x.more ∷ outer;
        pending = rw er (inner a.stands (rw x.same a.opened.closes) behind);
        shaped = rw a.shaped terms;
        ahead = omega (arith, a.ahead);
        nodes = rw a.operands;
      }

  step : {r : ℕ} → Onward x r → Step x outer e r
  step {r} er = go (is_list x.label) refl (is "_" (item 0 x.operands)) refl
    where
      go : (l : Bool) → is_list x.label ≡ l → (b : Bool) → is "_" (item 0 x.operands) ≡ b → Step x outer e r
      go false el b eb =
          let alone = (here x.same x.stands).a_word el in
          skip (rw el at er ∙ sym alone.0) (ap operands_of alone.1 ∙ none_held)
      go true el true eb = skip (rw (el, eb) at er) (rw eb)
      go true el false eb = enter (rw (el, eb) at er) (applied x el eb)

-- ---- what stands at the word to which the walk has come

-- the walk goes on past a bracket that closes a list
record Closed (s : Source) (at : ℕ) (items : Items) (outer : List Items) (e : ℕ) : Type 0 where
  pub next : Items
  pub around : List Items
  pub pending : Pending s (at + 1) next around e
  pub shaped : outer_terms (items ∷ outer) ≡ true → outer_terms (next ∷ around) ≡ true
  pub nodes : all_nodes (items ∷ outer) ≡ all_nodes (next ∷ around)

module _ {s : Source} {lexemes : List ℕ} {at : ℕ} where
  item-of : {items : Items} {outer : List Items} {e : ℕ} → Turn s lexemes at items outer e → (code_at lexemes at ≡ close_code → ⊥) → Tree items
  item-of (at_word {l = l} {more = more} stands no_list p) other = record { l = l; ops = none; rest = more; is = refl }
  item-of (at_list {c = c} {ops = ops} {more = more} stands p q) other = record { l = list at c; ops = ops; rest = more; is = refl }
  item-of (at_close code p) other = absurd (other code)

  closed_by : s.lexemes ≡ lexemes → {items : Items} {outer : List Items} {e : ℕ} → Turn s lexemes at items outer e → code_at lexemes at ≡ close_code
      → Closed s at items outer e
  unfolding all_nodes nodes_of raw_terms term_shapes
  closed_by same (at_word {l = l} stands no_list p) shut = apart (sym (not_close l) ∙ eq-eqb (code_of l) close_code (sym (here same stands).code ∙ shut))
  closed_by same (at_list stands p q) shut = absurd (omega (arith, (here same stands).code))
  closed_by same (at_close {next = next} {outer = outer} code p) shut =
      record { next = next; around = outer; pending = p; shaped = λ x. x; nodes = refl }

-- at the end nothing is pending
nothing_left : {s : Source} {at e : ℕ} {items : Items} {outer : List Items} → Pending s at items outer e → e ≤ at → all_nodes (items ∷ outer) ≡ []
unfolding all_nodes nodes_of raw_terms
nothing_left (outermost stands) h = ap (λ (F : Items). all_nodes (F ∷ [])) (none_left stands h)
nothing_left (inner stands closed rest) h = absurd (omega (arith, forward stands, pending_forward rest))

-- ---- the turns of the loop

-- so many nodes are gathered, and what is pending at word `at` has those that are left
pub record Gathers {lexemes : List ℕ} {first end : ℕ} {raw₀ : List ℕ} {node : ℕ} (p : Gathering lexemes first end raw₀ node) (at : ℕ) (raw : List ℕ) (next : ℕ)
    : Type 0 where
  pub items : Items
  pub outer : List Items
  pub pending : Pending p.source at items outer end
  pub shaped : outer_terms (items ∷ outer) ≡ true
  pub done : List (Node Raw)
  pub rest : List ℕ
  pub all : done ++ all_nodes (items ∷ outer) ≡ nodes_of (raw_terms false p.items)
  pub is : raw ≡ rows uncounted (nodes_of p.rows.before ++ done) ++ rest
  pub counted : next ≡ length (nodes_of p.rows.before ++ done)

pub record Walk (lexemes : List ℕ) (first end : ℕ) (raw₀ : List ℕ) (node : ℕ) (raw : List ℕ) (at next : ℕ) : Type 0 where
  pub long : length raw ≡ length raw₀
  pub room : row_width * (node + (end - first)) ≤ length raw₀
  pub few : next + (end - at) ≤ node + (end - first)
  pub each : (p : Gathering lexemes first end raw₀ node) → Gathers p at raw next

module _ {lexemes : List ℕ} {first end : ℕ} {raw₀ : List ℕ} {node : ℕ} where
  pub walk_begins : Gathering lexemes first end raw₀ node → Walk lexemes first end raw₀ node raw₀ first node
  unfolding all_nodes uncounted_table
  walk_begins given = record { long = refl; room = given.rows.room; few = omega arith; each = begins }
    where
      begins : (p : Gathering lexemes first end raw₀ node) → Gathers p first raw₀ node
      begins p = record {
        items = p.items;
        outer = [];
        pending = outermost p.stands;
        shaped = rw p.shaped;
        done = [];
        rest = p.rows.rest;
        all = append-nil (nodes_of (raw_terms false p.items));
        is = rw append-nil p.rows.is;
        counted = rw (append-nil, length_nodes) p.rows.counted;
      }

  module _ {raw : List ℕ} {at next : ℕ} (walk : Walk lexemes first end raw₀ node raw at next) where
    pub walk_ends : end ≤ at → (p : Gathering lexemes first end raw₀ node) → Gathered p raw next
    unfolding uncounted_table
    walk_ends h p =
        let q = walk.each p in
        let all : q.done ≡ nodes_of (raw_terms false p.items) = sym (append-nil q.done) ∙ rw (nothing_left q.pending h) at q.all in
        let both : nodes_of p.rows.before ++ q.done ≡ nodes_of (join p.rows.before (raw_terms false p.items)) = rw (all, nodes_join) in
        record {
          rest = q.rest;
          is = rw both at q.is;
          counted = q.counted ∙ ap length both ∙ length_nodes _;
          long = walk.long;
        }

    module _ (h : at < end) {code : ℕ} (ec : code ≡ code_at lexemes at) where
      pub walk_closes : code ≡ close_code → Walk lexemes first end raw₀ node raw (at + 1) next
      walk_closes shut = record { long = walk.long; room = walk.room; few = omega (arith, walk.few); each = goes }
        where
          goes : (p : Gathering lexemes first end raw₀ node) → Gathers p (at + 1) raw next
          goes p =
              let q = walk.each p in
              let c = closed_by p.same (turn p.same q.pending h) (sym ec ∙ shut) in
              record {
                items = c.next;
                outer = c.around;
                pending = c.pending;
                shaped = c.shaped q.shaped;
                done = q.done;
                rest = q.rest;
                all = rw c.nodes at q.all;
                is = q.is;
                counted = q.counted;
              }

      module _ (other : code ≡ close_code → ⊥) where
        item-at : (p : Gathering lexemes first end raw₀ node) → Tree (walk.each p).items
        item-at p = item-of (turn p.same (walk.each p).pending h) (λ shut. other (ec ∙ shut))

        pending_at : (p : Gathering lexemes first end raw₀ node)
            → Pending p.source at (tree (item-at p).l (item-at p).ops (item-at p).rest) (walk.each p).outer end
        pending_at p = subst (λ (F : Items). Pending p.source at F (walk.each p).outer end) (item-at p).is (walk.each p).pending

        terms_at : (p : Gathering lexemes first end raw₀ node)
            → outer_terms (tree (item-at p).l (item-at p).ops (item-at p).rest ∷ (walk.each p).outer) ≡ true
        terms_at p = subst (λ (F : Items). outer_terms (F ∷ (walk.each p).outer) ≡ true) (item-at p).is (walk.each p).shaped

        -- the term to which the walk has come
        pub walk_term : Gathering lexemes first end raw₀ node → TermAt lexemes at
        walk_term p = record {
          source = p.source;
          same = p.same;
          label = (item-at p).l;
          operands = (item-at p).ops;
          more = (item-at p).rest;
          end = (level (pending_at p)).close;
          stands = (level (pending_at p)).stands;
          shaped = and_left (term_shapes false (tree (item-at p).l (item-at p).ops (item-at p).rest)) (outer_terms (walk.each p).outer) (terms_at p);
        }

        module _ {head : ℕ} (eh : (x : TermAt lexemes at) → head ≡ head_word (raw_of x.label x.operands))
            {operands : ℕ} (eo : (x : TermAt lexemes at) → operands ≡ count (operands_of x.operands))
            {after : ℕ} (eb : (x : TermAt lexemes at) → Onward x after) where
          goes_on : (p : Gathering lexemes first end raw₀ node) → Step (walk_term p) (walk.each p).outer end after
          unfolding walk_term
          goes_on p =
              let t = item-at p in
              step (walk_term p) (more_terms t.l t.ops t.rest (walk.each p).outer (terms_at p)) (level (pending_at p)).onward (eb (walk_term p))

          pub walk_ahead : Gathering lexemes first end raw₀ node → at < after
          walk_ahead p = (goes_on p).ahead

          module _ (p : Gathering lexemes first end raw₀ node) where
            node_here : Node Raw
            node_here = node_of (item-at p).l (item-at p).ops

            -- the nodes before it, with those of the terms that were there
            before : List (Node Raw)
            before = nodes_of p.rows.before ++ (walk.each p).done

            nodes_here : all_nodes ((walk.each p).items ∷ (walk.each p).outer) ≡ node_here ∷ all_nodes ((goes_on p).items ∷ (goes_on p).around)
            unfolding node_here walk_term
            nodes_here =
                let t = item-at p in
                ap (λ (F : Items). all_nodes (F ∷ (walk.each p).outer)) t.is
                ∙ front_node t.l t.ops t.rest (walk.each p).outer
                ∙ ap (λ (nodes : List (Node Raw)). node_here ∷ nodes) (goes_on p).nodes

            row_here : at ∷ head ∷ operands ∷ 0 ∷ [] ≡ uncounted node_here
            unfolding node_here walk_term
            row_here = rw (term_first (item-at p).l (item-at p).ops ∙ first_of (walk_term p).stands, ← eh (walk_term p), ← eo (walk_term p))

            row_put : sets raw (row_width * next) (at ∷ head ∷ operands ∷ 0 ∷ [])
                ≡ rows uncounted (before ++ node_here ∷ []) ++ drop row_width (walk.each p).rest
            unfolding before
            row_put =
                let q = walk.each p in
                row_added raw before q.rest node_here next (at ∷ head ∷ operands ∷ 0 ∷ []) q.is q.counted row_here
                (omega (arith, walk.few, walk.room, walk.long))

          pub walk_goes : Gathering lexemes first end raw₀ node → {rawAfter : List ℕ} → rawAfter ≡ sets raw (row_width * next) (at ∷ head ∷ operands ∷ 0 ∷ [])
              → Walk lexemes first end raw₀ node rawAfter after (next + 1)
          unfolding before walk_term
          walk_goes given {rawAfter} er = record {
            long = ap length er ∙ length-sets raw (row_width * next) (at ∷ head ∷ operands ∷ 0 ∷ []) ∙ walk.long;
            room = walk.room;
            few = omega (arith, walk.few, walk_ahead given);
            each = goes;
          }
            where
              goes : (p : Gathering lexemes first end raw₀ node) → Gathers p after rawAfter (next + 1)
              goes p =
                  let q = walk.each p in
                  let st = goes_on p in
                  record {
                    items = st.items;
                    outer = st.around;
                    pending = st.pending;
                    shaped = st.shaped;
                    done = q.done ++ node_here p ∷ [];
                    rest = drop 4 q.rest;
                    all = rw append_snoc (rw (nodes_here p) at q.all);
                    is = er ∙ row_put p ∙ rw append_assoc;
                    counted = rw (← append_assoc, length-append) (omega (arith, q.counted));
                  }

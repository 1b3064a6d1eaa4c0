-- The loop over the nodes of terms: what it has written and found before each of them.
use Prim.Native.Nat.{ℕ, zero, suc, ◌+◌, ◌*◌, ◌≤◌, ◌<◌, min}
use native.Mathlib.Nat.{min-eq_left, min-eq_right}
use native.Mathlib.Numerals.{unary_clauses}
use native.Mathlib.Omega.{arith}
use mathlib.Core.Path.{◌≡◌, refl, sym, ap, ◌∙◌, subst}
use mathlib.Core.Bool.{cond}
use mathlib.Core.List.{List, [], ◌∷◌, ◌++◌}
use lib.ListN.{drop, get_or, length, drop_of_length-le}
use lib.Seq.{length-sets, sets}
use Rattle.forest.specs.Forest.{Forest, Node, count, nodes_of, none, tree}
use Rattle.forest.specs.code.Cursors.{size}
use Rattle.forest.specs.code.Rows.{number_at}
use Rattle.forest.specs.Tables.{rows}
use Rattle.forest.proofs.Lists.{Stands, stands}
use Rattle.forest.proofs.Nodes.{length_nodes}
use Rattle.forest.proofs.Rows.{row_at, rows_append}
use Rattle.terms.specs.code.Nodes.{row_width as nodeWidth}
use Rattle.derivation.specs.code.Tables.{form_table, item_code, item_row, item_value}
use Rattle.lexemes.specs.code.Standing.{Source}
use Rattle.lexemes.specs.code.Table.{code_at}
use Rattle.term_nodes.specs.code.Table.{first_at, head_at, operands_at, raw_row, raw_table, row_width, size_at}
use Rattle.term_nodes.specs.code.Says.{AllSay, Says}
use Rattle.term_nodes.specs.Terms.{Raw}
use Rattle.names.specs.Scopes.{View, forms_of, item_or, means}
use Rattle.names.specs.code.Lookup.{Headed, source_of}
use Rattle.names.specs.code.Nodes.{NodeAt, NodeMeans, word_by}
use Rattle.names.specs.code.Forms.{AllHeaded, Resolved, Resolving}
use Rattle.names.specs.Unknown.{unknown_at, unknown_in}
use Rattle.names.specs.declared.Meaning.{Meaning}
use Rattle.names.specs.declared.Seen.{Seen}
use Rattle.names.proofs.ByWords.{node-word}

-- The row of a node's form.
abbrev pub form_row : View → Node Raw → List ℕ
form_row view n =
    item_code (item_or (means view n.label)) ∷ item_value (item_or (means view n.label)) ∷ count n.operands ∷ suc (size n.operands) ∷ []

module _ (view : View) where
  count_form : (F : Forest Raw) → count (forms_of view F) ≡ count F
  unfolding count forms_of
  count_form none = refl
  count_form (tree r ops rest) = ap suc (count_form rest)

  size_form : (F : Forest Raw) → size (forms_of view F) ≡ size F
  unfolding forms_of size
  size_form none = refl
  size_form (tree r ops rest) = rw (size_form ops, size_form rest)

  -- The forms of terms, row by row.
  form_rows : (F : Forest Raw) → rows item_row (nodes_of (forms_of view F)) ≡ rows (form_row view) (nodes_of F)
  unfolding forms_of nodes_of rows
  form_rows none = refl
  form_rows (tree r ops rest) =
      rw (
        rows_append item_row nodeWidth (λ n. refl) (nodes_of (forms_of view ops)) (nodes_of (forms_of view rest)),
        rows_append (form_row view) nodeWidth (λ n. refl) (nodes_of ops) (nodes_of rest),
        form_rows ops,
        form_rows rest,
        count_form ops,
        size_form ops,
      )

-- What the words say of a node, and its head.
record Told (s : Source) (n : Node Raw) : Type 0 where
  pub says : Says s n.label
  pub headed : Headed n.label

-- The same of each of the nodes.
abbrev Every : (s : Source) → List (Node Raw) → Type 0
Every s [] = Unit {0}
Every s (n ∷ more) = Told s n × Every s more

every_append : (s : Source) (xs ys : List (Node Raw)) → Every s xs → Every s ys → Every s (xs ++ ys)
every_append s [] ys e f = f
every_append s (x ∷ xs) ys e f = (e.0, every_append s xs ys e.1 f)

every_node : (s : Source) (F : Forest Raw) → AllSay s F → AllHeaded F → Every s (nodes_of F)
unfolding AllHeaded AllSay nodes_of
every_node s none say head = tt
every_node s (tree r ops rest) say head =
    let first = every_node s ops say.1 head.1 in
    let later = every_node s rest say.2 head.2 in
    (record { says = say.0; headed = head.0 }, every_append s (nodes_of ops) (nodes_of rest) first later)

told_at : (s : Source) (xs : List (Node Raw)) (i : ℕ) {x : Node Raw} {more : List (Node Raw)} → Every s xs → drop i xs ≡ x ∷ more → Told s x
told_at s [] zero all e = let z : ◌≡◌ {A = ℕ} 0 1 = cc in absurd (omega arith)
told_at s [] (suc i) all e = let z : ◌≡◌ {A = ℕ} 0 1 = cc in absurd (omega arith)
told_at s (y ∷ ys) zero {x} all e = let q : y ≡ x = cc in subst (Told s) q all.0
told_at s (y ∷ ys) (suc i) all e = told_at s ys i all.1 e

-- The least word is not past `nowhere`.
unknown_below : (nowhere : ℕ) (view : View) (xs : List (Node Raw)) → unknown_in nowhere view xs ≤ nowhere
unfolding unknown_in
unknown_below nowhere view [] = omega arith
unknown_below nowhere view (x ∷ more) = omega (arith, unknown_below nowhere view more)

-- Rows behind a row.
row_after : (l : List ℕ) (i a b c d : ℕ) (more : List ℕ)
    → sets (sets l (nodeWidth * i) (a ∷ b ∷ c ∷ d ∷ [])) (nodeWidth * (i + 1)) more ≡ sets l (nodeWidth * i) (a ∷ b ∷ c ∷ d ∷ more)
row_after l i a b c d more = let next : nodeWidth * (i + 1) ≡ suc (suc (suc (suc (nodeWidth * i)))) = omega arith in rw next

-- Before a node: with the rows of the nodes from there on all rows are written, and the least word of those nodes and the one that was found is the least of
-- all.
pub record Turn {names text lexemes raw forms : List ℕ} {seen : Seen} {count base : ℕ} (p : Resolving names text lexemes raw forms seen count base)
    (nowhere : ℕ) (written : List ℕ) (unknown node : ℕ) : Type 0 where
  pub left : sets written (nodeWidth * (base + node)) (rows (form_row p.view) (drop node (nodes_of p.F)))
      ≡ sets forms (nodeWidth * base) (rows (form_row p.view) (nodes_of p.F))
  pub least : min unknown (unknown_in nowhere p.view (drop node (nodes_of p.F))) ≡ unknown_in nowhere p.view (nodes_of p.F)

-- The same whatever the terms are.
pub record Going (names text lexemes raw forms : List ℕ) (seen : Seen) (count base nowhere : ℕ) (written : List ℕ) (unknown node : ℕ) : Type 0 where
  pub given : Resolving names text lexemes raw forms seen count base
  pub passed : node ≤ count
  pub long : length written ≡ length forms
  pub low : unknown ≤ nowhere
  pub each : (p : Resolving names text lexemes raw forms seen count base) → Turn p nowhere written unknown node

module _ {names text lexemes raw forms : List ℕ} {seen : Seen} {count base nowhere : ℕ} where
  pub begins : Resolving names text lexemes raw forms seen count base → Going names text lexemes raw forms seen count base nowhere forms nowhere 0
  begins p = record {
    given = p;
    passed = omega arith;
    long = refl;
    low = omega arith;
    each = λ p. record { left = simp unary_clauses; least = min-eq_right (unknown_below nowhere p.view (nodes_of p.F)) };
  }

  module _ {written : List ℕ} {unknown node : ℕ} (g : Going names text lexemes raw forms seen count base nowhere written unknown node) where
    -- past the last node all is written
    pub all_written : count ≤ node → (p : Resolving names text lexemes raw forms seen count base) → Resolved p nowhere written unknown
    unfolding form_table rows unknown_in
    all_written h p =
        let t = g.each p in
        let l : length (nodes_of p.F) ≤ node = omega (arith, length_nodes p.F, p.counted) in
        let gone = drop_of_length-le (nodes_of p.F) l in
        record {
          forms_are = (rw gone at t.left) ∙ ap (sets forms (nodeWidth * base)) (sym (form_rows p.view p.F));
          unknown_is = sym (min-eq_left g.low) ∙ (rw gone at t.least);
        }

    module _ (inside : node < count) {first head : ℕ} (ef : first ≡ first_at raw node) (eh : head ≡ head_at raw node) where
      -- the node at which the loop stands
      at_node : (p : Resolving names text lexemes raw forms seen count base) → Stands (nodes_of p.F) node
      at_node p = stands (nodes_of p.F) node (omega (arith, length_nodes p.F, p.counted))

      -- what its row says
      column_is : (p : Resolving names text lexemes raw forms seen count base) (column : ℕ) → column < row_width
          → number_at row_width raw node column ≡ get_or (raw_row (at_node p).here) column 0
      unfolding raw_table
      column_is p column small =
          let x = at_node p in
          rw p.is_raw (row_at raw_row row_width (λ n. refl) (nodes_of p.F) p.rest node column x.here (drop (node + 1) (nodes_of p.F)) x.is small)

      -- what its words say
      node_of : (p : Resolving names text lexemes raw forms seen count base) → NodeAt names seen text lexemes first head
      node_of p =
          let s = source_of text lexemes in
          let told = told_at s (nodes_of p.F) node (every_node s p.F p.say p.headed) (at_node p).is in
          record {
            view = p.view;
            sees = p.sees;
            bounded = p.bounded;
            node = (at_node p).here.label;
            begins = ef ∙ column_is p 0 (omega arith);
            heads = eh ∙ column_is p 1 (omega arith);
            says = told.says;
            headed = told.headed;
          }

      pub node_here : NodeAt names seen text lexemes first head
      node_here = node_of g.given

      module _ {meaning : Meaning} (em : (n : NodeAt names seen text lexemes first head) → NodeMeans n.view n.node meaning)
          {operands size : ℕ} (eo : operands ≡ operands_at raw node) (es : size ≡ size_at raw node)
          {after : List ℕ} (ea : after ≡ sets written (nodeWidth * (base + node)) (meaning.code ∷ meaning.value ∷ operands ∷ size ∷ []))
          {word : ℕ} (ew : word ≡ cond meaning.known nowhere (word_by first head (code_at lexemes head))) {least : ℕ} (el : least ≡ min unknown word) where
        -- one node more
        turned : (p : Resolving names text lexemes raw forms seen count base) → Turn p nowhere after least (node + 1)
        unfolding node_of rows unknown_in
        turned p =
            let t = g.each p in
            let m = em (node_of p) in
            let x = (at_node p).here in
            let more = drop (node + 1) (nodes_of p.F) in
            let row : (meaning.code ∷ meaning.value ∷ operands ∷ size ∷ []) ≡ form_row p.view x =
            rw (m.stated.code_is, m.stated.value_is, eo ∙ column_is p 2 (omega arith), es ∙ column_is p 3 (omega arith)) in
            let next : base + (node + 1) ≡ base + node + 1 = omega arith in
            let found : word ≡ unknown_at nowhere p.view x.label =
            ew ∙ ap (cond meaning.known nowhere) (node-word (node_of p)) ∙ sym (m.known_is nowhere) in
            let of-all = unknown_in nowhere p.view (nodes_of p.F) in
            let all : min unknown (min (unknown_at nowhere p.view x.label) (unknown_in nowhere p.view more)) ≡ of-all =
            rw (at_node p).is at t.least in
            record {
              left =
                  rw (ea ∙ ap (sets written (nodeWidth * (base + node))) row, next)
                  (row_after written (base + node) _ _ _ _ (rows (form_row p.view) more) ∙ (rw (at_node p).is at t.left));
              least = omega arith;
            }

        pub turn : Going names text lexemes raw forms seen count base nowhere after least (node + 1)
        turn = record {
          given = g.given;
          passed = omega arith;
          long = ap length ea ∙ length-sets written (nodeWidth * (base + node)) (meaning.code ∷ meaning.value ∷ operands ∷ size ∷ []) ∙ g.long;
          low = omega (arith, g.low);
          each = turned;
        }

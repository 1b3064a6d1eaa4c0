-- Terms of bodies and constraints: where no non-terminal is seen, the forms that are read are terms, whose nodes have the same rows, and whose
-- labels are told by their numbers.
use Prim.Native.Nat.{ℕ, ◌^◌}
use mathlib.Core.Bool.{Bool, true, false, cond, ◌&&◌}
use mathlib.Core.List.{List, []}
use mathlib.Core.Option.{Option, none as nothing, some}
use mathlib.Core.Path.{◌≡◌, refl, ap, subst, ◌∙◌}
use lib.Dec.{leb, ltb}
use Rattle.forest.specs.Forest.{Forest, count, nodes_of, none, tree}
use Rattle.forest.specs.code.Cursors.{size}
use Rattle.forest.specs.Tables.{rows}
use Rattle.forest.proofs.Rows.{rows_append}
use Rattle.word_kinds.specs.Decimals.{decimal_value}
use Rattle.operators.specs.Operators.{operator_count, operator_of}
use Rattle.operators.specs.Sorts.{max_width}
use Rattle.terms.specs.Labels.{Label, defined, function, literal, name as label-name, operator}
use Rattle.terms.specs.code.Nodes.{AllPlain, Plain, code_of, node_row, node_table, row_width as nodeWidth, value_of}
use Rattle.derivation.specs.Derivation.{Item, non_terminal, the}
use Rattle.derivation.specs.code.Tables.{form_table, item_code, item_row, item_value}
use Rattle.lexemes.specs.Reserved.{is_word}
use Rattle.term_sorts.specs.Forms.{FormScope}
use Rattle.term_sorts.specs.code.Signatures.{AllReal, Every, Real}
use Rattle.words.specs.Trees.{Lexeme, keyword, list, literal as literal-word, numeral, symbol, word_of}
use Rattle.lexemes.specs.Lists.{Items, inside, is, is_constant_word, item, name_of, numeral_of}
use Rattle.lexemes.specs.code.Standing.{Source}
use Rattle.term_nodes.specs.code.Says.{AllSay}
use Rattle.term_nodes.specs.Terms.{Raw, constant, cut, cut_by, decimal, headed_by, number, pattern, raw_of, raw_term, raw_terms, word}
use Rattle.term_nodes.specs.code.Table.{operands_of}
use Rattle.names.specs.Scopes.{Named, View, defined_names, forms_of, function_names, is_named, item_or, means, names_of, symbol_means}
use Rattle.term_faults.specs.Faults.{scope_of}
use Rattle.term_faults.specs.code.Bodies.{Lawful, NarrowNode}
use Rattle.term_faults.proofs.Reals.{all_real}
use Rattle.script.specs.Script.{label_of, term_of, terms_in}

-- A node is no `(Constant σ)` and no `(Variable σ)`.
abbrev pub Written : Raw → Type 0
Written (word at head name) = Unit {0}
Written (number at v) = Unit {0}
Written (constant at width v) = Unit {0}
Written (decimal at head n width) = Unit {0}
Written (cut at head i j) = Unit {0}
Written (pattern at c s held) = ⊥

-- No node is one.
pub data AllWritten : Forest Raw → Type 0 where
  none_written : AllWritten none
  also_written : {r : Raw} {ops more : Forest Raw} → Written r → AllWritten ops → AllWritten more → AllWritten (tree r ops more)

-- The node of a list is none.
headed_written : (at : ℕ) (l : Lexeme) (held ops : Items) → Written (headed_by at l held ops)
headed_written at (symbol head name) held ops = go (is "_" (symbol head name)) (is_constant_word (item 1 ops))
  where
    go : (b c : Bool)
        → Written (cond b (cond c (decimal at (word_of (item 1 ops)) (name_of (item 1 ops)) (numeral_of (item 2 ops))) (cut_by at ops)) (word at head name))
    go true true = tt
    go true false = tt
    go false c = tt
headed_written at (list head close) held ops = tt
headed_written at (numeral head v) held ops = tt
headed_written at (keyword head name) held ops = tt
headed_written at (literal-word head width v written) held ops = tt

-- The node of an item is none.
node_written : (l : Lexeme) (ops : Items) → Written (raw_of l ops)
node_written (symbol at name) ops = tt
node_written (numeral at v) ops = tt
node_written (keyword at name) ops = tt
node_written (literal-word at width v bytes) ops = tt
node_written (list at close) ops = headed_written at (item 0 ops) (inside 0 ops) ops

-- One of two forests without such nodes has none.
either_written : (test : Bool) {F G : Forest Raw} → AllWritten F → AllWritten G → AllWritten (cond test F G)
either_written true f g = f
either_written false f g = g

-- The terms that items are have none.
pub terms_written : (headed : Bool) (F : Items) → AllWritten (raw_terms headed F)
unfolding raw_terms
terms_written headed none = none_written
terms_written headed (tree l ops more) =
    let later = terms_written false more in
    either_written headed later (also_written (node_written l ops) (either_written (is "_" (item 0 ops)) none_written (terms_written true ops)) later)

-- A node that is none has no sort of its own that could be too wide.
node_narrow : (r : Raw) → Written r → NarrowNode r
node_narrow (word at head name) w = tt
node_narrow (number at v) w = tt
node_narrow (constant at width v) w = tt
node_narrow (decimal at head n width) w = tt
node_narrow (cut at head i j) w = tt
node_narrow (pattern at c s held) w = absurd w

-- The same of every node.
written_narrow : (F : Forest Raw) → AllWritten F → Every NarrowNode F
unfolding Every
written_narrow none w = tt
written_narrow (tree r ops more) (also_written w o m) = (node_narrow r w, written_narrow ops o, written_narrow more m)

-- So no node of a term has one.
pub term_narrow : (l : Lexeme) (ops : Items) → Every NarrowNode (raw_term l ops)
term_narrow l ops = written_narrow (raw_term l ops) (terms_written false (tree l ops none))

-- What a node stands for, or nothing, is a label.
record Labelled (meant : Option Item) : Type 0 where
  is : item_or meant ≡ the (label_of (item_or meant))

-- A label is one.
the_labelled : {l : Label} → Labelled (some (the l))
the_labelled = record { is = refl }

-- Nothing is read as one.
nothing_labelled : Labelled nothing
nothing_labelled = record { is = refl }

-- One of two is one where both are.
either_labelled : (test : Bool) {x y : Option Item} → Labelled x → Labelled y → Labelled (cond test x y)
either_labelled true p q = p
either_labelled false p q = q

-- A non-terminal is not seen where there are none.
unseen_labelled : (non_terminals : List Named) → non_terminals ≡ [] → (n : List ℕ) (A : ℕ)
    → Labelled (cond (is_named (names_of non_terminals) n) (some (non_terminal A)) nothing)
unfolding is_named
unseen_labelled non_terminals closed n A = rw closed nothing_labelled

module _ (view : View) (closed : view.non_terminals ≡ []) where
  -- What a node stands for is one.
  node_labelled : (r : Raw) → Written r → Labelled (means view r)
  unfolding symbol_means
  node_labelled (word at head n) w =
      either_labelled (is_word "true" n) the_labelled
      (either_labelled (is_word "false" n) the_labelled
      (either_labelled (ltb (operator_of n) operator_count) (either_labelled (is_word "extract" n) nothing_labelled the_labelled)
      (either_labelled (is_named (names_of view.names) n) the_labelled
      (either_labelled (is_named (defined_names view.defined) n) the_labelled
      (either_labelled (is_named (function_names view.functions) n) the_labelled
      (unseen_labelled view.non_terminals closed n _))))))
  node_labelled (number at v) w = nothing_labelled
  node_labelled (constant at width v) w = the_labelled
  node_labelled (decimal at head n width) w =
      either_labelled (leb 1 width && leb width max_width && ltb (decimal_value n) (2 ^ width)) the_labelled nothing_labelled
  node_labelled (cut at head i j) w = either_labelled (leb j i && ltb i max_width) the_labelled nothing_labelled
  node_labelled (pattern at c s held) w = absurd w

-- All nodes of forms are labels.
data AllLabels : Forest Item → Type 0 where
  none_labels : AllLabels none
  also_labels : {i : Item} {ops more : Forest Item} → i ≡ the (label_of i) → AllLabels ops → AllLabels more → AllLabels (tree i ops more)

-- Those of terms are.
forms_labels : (view : View) → view.non_terminals ≡ [] → (F : Forest Raw) → AllWritten F → AllLabels (forms_of view F)
unfolding forms_of
forms_labels view closed none w = none_labels
forms_labels view closed (tree r ops more) (also_written w o m) =
    also_labels (node_labelled view closed r w).is (forms_labels view closed ops o) (forms_labels view closed more m)

-- There is a form for each node.
pub forms_size : (view : View) (F : Forest Raw) → size (forms_of view F) ≡ size F
unfolding forms_of size
forms_size view none = refl
forms_size view (tree r ops more) = rw (forms_size view ops, forms_size view more)

-- ---- the terms that forms are

-- There are as many trees.
terms_count : (F : Forest Item) → count (terms_in F) ≡ count F
unfolding count terms_in
terms_count none = refl
terms_count (tree i ops more) = rw (terms_count more)

-- There are as many nodes.
pub terms_size : (F : Forest Item) → size (terms_in F) ≡ size F
unfolding size terms_in
terms_size none = refl
terms_size (tree i ops more) = rw (terms_size ops, terms_size more)

-- The rows are the same.
labels_table : (F : Forest Item) → AllLabels F → rows item_row (nodes_of F) ≡ rows node_row (nodes_of (terms_in F))
unfolding nodes_of rows terms_in
labels_table none a = refl
labels_table (tree i ops more) (also_labels e o m) =
    let code : item_code i ≡ code_of (label_of i) = ap item_code e in
    let value : item_value i ≡ value_of (label_of i) = ap item_value e in
    rw (
      rows_append item_row nodeWidth (λ n. refl) (nodes_of ops) (nodes_of more),
      rows_append node_row nodeWidth (λ n. refl) (nodes_of (terms_in ops)) (nodes_of (terms_in more)),
      labels_table ops o,
      labels_table more m,
      terms_count ops,
      terms_size ops,
      code,
      value,
    )

-- A label that a reader makes is told by its numbers.
label_plain : (scope : FormScope) (l : Label) → Real scope (the l) → Plain l
label_plain scope (literal s v) real = tt
label_plain scope (label-name s k) real = tt
label_plain scope (operator o i j) real = real
label_plain scope (defined k) real = tt
label_plain scope (function k) real = tt

-- Those of forms are.
labels_plain : (scope : FormScope) (F : Forest Item) → AllLabels F → AllReal scope F → AllPlain (terms_in F)
unfolding AllPlain Every terms_in
labels_plain scope none a real = tt
labels_plain scope (tree i ops more) (also_labels e o m) real = (
  label_plain scope (label_of i) (subst (Real scope) e real.0),
  labels_plain scope ops o real.1,
  labels_plain scope more m real.2,
)

module _ (view : View) (closed : view.non_terminals ≡ []) (l : Lexeme) (ops : Items) where
  -- The term that is read has the nodes of the form.
  pub term_table : form_table (forms_of view (raw_term l ops)) ≡ node_table (term_of view l ops)
  unfolding form_table node_table
  term_table = labels_table (forms_of view (raw_term l ops)) (forms_labels view closed (raw_term l ops) (terms_written false (tree l ops none)))

  -- Its labels are told by their numbers.
  pub term_plain : (s : Source) {nowhere : ℕ} → Lawful s nowhere → AllSay s (raw_term l ops) → AllPlain (term_of view l ops)
  term_plain s lawful say =
      labels_plain (scope_of view) (forms_of view (raw_term l ops)) (forms_labels view closed (raw_term l ops) (terms_written false (tree l ops none)))
      (all_real view s lawful.bounded.fit (raw_term l ops) say)

  -- It has as many nodes as there are to read.
  pub term_size : size (term_of view l ops) ≡ size (raw_term l ops)
  term_size = terms_size (forms_of view (raw_term l ops)) ∙ forms_size view (raw_term l ops)

  -- It is one tree.
  pub term_tree : term_of view l ops ≡ tree (label_of (item_or (means view (raw_of l ops)))) (terms_in (forms_of view (operands_of ops))) none
  unfolding forms_of raw_terms terms_in
  term_tree = refl

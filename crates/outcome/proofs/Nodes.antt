-- The nodes of a term that has a sort: none is a numeral, so that all of them count against the limit.
use Prim.Native.Nat.{ℕ, zero, suc, ◌≤◌, ◌<◌}
use native.Mathlib.Omega.{arith}
use mathlib.Core.Bool.{Bool, true, false, cond}
use mathlib.Core.List.{List, [], ◌∷◌, ◌++◌}
use mathlib.Core.Option.{some}
use mathlib.Core.Path.{◌≡◌, refl}
use lib.ListN.{length}
use Rattle.forest.specs.Forest.{Forest, Node, nodes_of, none, tree}
use Rattle.forest.specs.code.Cursors.{size}
use Rattle.forest.proofs.Nodes.{length_nodes}
use Rattle.forest.proofs.Options.{never}
use Rattle.operators.specs.Operators.{operator_sort}
use Rattle.terms.specs.Sorts.{Scope, label_sort, sorts_of}
use Rattle.terms.proofs.Sorted.{sorted}
use Rattle.words.specs.Trees.{Lexeme}
use Rattle.lexemes.specs.Lists.{Items, is, item}
use Rattle.term_nodes.specs.Terms.{Raw, constant, cut, decimal, first_word, is_node, node_word, number, pattern, raw_of, raw_term, raw_terms, word, word_past}
use Rattle.names.specs.Scopes.{View, forms_of, item_or, means}
use Rattle.term_nodes.proofs.GatheringWalk.{term_first}
use Rattle.script.specs.Script.{label_of, term_of, terms_in}
use Rattle.script.proofs.WordsBelow.{Below, WordsBelow}
use Rattle.script.proofs.TermsOfForms.{term_size}

-- All nodes count, and their first words are below nowhere.
data AllCounted (nowhere : ℕ) : List (Node Raw) → Type 0 where
  none_counted : AllCounted nowhere []
  also_counted : {x : Node Raw} {more : List (Node Raw)} → is_node x.label ≡ true → first_word x.label < nowhere → AllCounted nowhere more
      → AllCounted nowhere (x ∷ more)

module _ {nowhere : ℕ} where
  -- The same of nodes one after the other.
  counted_append : {xs ys : List (Node Raw)} → AllCounted nowhere xs → AllCounted nowhere ys → AllCounted nowhere (xs ++ ys)
  counted_append none_counted others = others
  counted_append (also_counted node low more) others = also_counted node low (counted_append more others)

  -- There are no more of them than the limit, where none is past it.
  few_counted : (most : ℕ) {xs : List (Node Raw)} → AllCounted nowhere xs → nowhere ≤ node_word nowhere most xs → length xs ≤ most
  unfolding node_word
  few_counted most none_counted h = omega arith
  few_counted zero (also_counted node low more) h = absurd (omega (arith, rw node at h))
  few_counted (suc most) (also_counted node low more) h = omega (arith, few_counted most more (rw node at h))

module _ (view : View) (scope : Scope) where
  -- A node whose label has a sort is no numeral.
  sorted_node : (r : Raw) (ss : List ℕ) {s : ℕ} → label_sort scope (label_of (item_or (means view r))) ss ≡ some s → is_node r ≡ true
  unfolding label_sort operator_sort
  sorted_node (word at head name) ss h = refl
  sorted_node (number at v) ss h = never h
  sorted_node (constant at width v) ss h = refl
  sorted_node (decimal at head name width) ss h = refl
  sorted_node (cut at head i j) ss h = refl
  sorted_node (pattern at c s held) ss h = refl

  module _ {nowhere : ℕ} where
    -- Operands that are left out have no nodes.
    operands_counted : (out : Bool) (F : Forest Raw) {ss : List ℕ} → (sorts_of scope (terms_in (forms_of view F)) ≡ some ss → AllCounted nowhere (nodes_of F))
        → sorts_of scope (terms_in (forms_of view (cond out none F))) ≡ some ss → AllCounted nowhere (nodes_of (cond out none F))
    unfolding nodes_of
    operands_counted true F counted h = none_counted
    operands_counted false F counted h = counted h

    -- The nodes of items that have sorts as terms all count.
    items_counted : (headed : Bool) (F : Items) {ss : List ℕ} → Below nowhere F → sorts_of scope (terms_in (forms_of view (raw_terms headed F))) ≡ some ss
        → AllCounted nowhere (nodes_of (raw_terms headed F))
    unfolding Below forms_of nodes_of raw_terms terms_in
    items_counted headed none below h = none_counted
    items_counted true (tree l ops more) below h = items_counted false more below.2 h
    items_counted false (tree l ops more) below h =
        let p = sorted scope _ _ _ h in
        let within = operands_counted (is "_" (item 0 ops)) (raw_terms true ops) (λ e. items_counted true ops below.1 e) p.ops_have in
        let low : first_word (raw_of l ops) < nowhere = omega (arith, term_first l ops, below.0.first) in
        also_counted (sorted_node (raw_of l ops) p.operands p.label) low
        (counted_append within (items_counted false more below.2 p.rest_have))

  -- A term that has a sort has no more nodes than the limit, where none is past it.
  pub few_nodes : {nowhere : ℕ} (most : ℕ) (l : Lexeme) (ops : Items) {ss : List ℕ} → WordsBelow nowhere l → Below nowhere ops → view.non_terminals ≡ []
      → sorts_of scope (term_of view l ops) ≡ some ss → nowhere ≤ word_past nowhere most (nodes_of (raw_term l ops)) → size (term_of view l ops) ≤ most
  unfolding Below
  few_nodes most l ops first below closed sorts past =
      let counted = items_counted false (tree l ops none) (first, below, tt) sorts in
      omega (arith, term_size view closed l ops, length_nodes (raw_term l ops), few_counted most counted (omega arith))

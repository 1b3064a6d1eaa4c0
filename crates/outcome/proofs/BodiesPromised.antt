-- Terms of bodies and constraints: where no non-terminal is seen, the form that is read is a term, and has the sort of the form.
use Prim.Native.Nat.{ℕ, ◌^◌, ◌≤◌}
use native.Mathlib.Omega.{arith}
use mathlib.Core.Bool.{Bool, true, false, cond, ◌&&◌}
use mathlib.Core.List.{List, [], ◌∷◌}
use mathlib.Core.Option.{Option, none as nothing, some}
use mathlib.Core.Path.{◌≡◌, refl, sym, subst, ◌∙◌}
use lib.Dec.{leb, ltb}
use borrow.Author.Tests.{le-ltb, ltb-true}
use Rattle.forest.specs.Forest.{Forest, none, tree}
use Rattle.word_kinds.specs.Decimals.{decimal_value}
use Rattle.operators.specs.Operators.{operator_count, operator_of, operator_sort}
use Rattle.operators.specs.Sorts.{max_width}
use Rattle.terms.specs.Labels.{Label}
use Rattle.terms.specs.Sorts.{Scope, label_sort, sort_over, sorts_of}
use Rattle.derivation.specs.Derivation.{Item, non_terminal, the}
use Rattle.derivation.specs.Sorts.{form_sorts, item_sort}
use Rattle.lexemes.specs.Reserved.{is_word}
use Rattle.words.specs.Trees.{Lexeme, word_of}
use Rattle.lexemes.specs.Lists.{Items}
use Rattle.term_nodes.specs.Terms.{Raw, constant, cut, decimal, number, pattern, raw_term, word}
use Rattle.names.specs.Scopes.{Named, View, defined_names, forms_of, function_names, is_named, item_or, means, names_of, named_sorts as sorts_in, symbol_means}
use Rattle.term_faults.specs.Faults.{body_fault, one_sort, raw_sorts, scope_of, term_fault}
use Rattle.script.specs.Script.{label_of, term_of, terms_in}
use Rattle.script.proofs.Rules.{one-sort}
use Rattle.script.proofs.WordsBelow.{WordsBelow, no_fault}
use Rattle.script.proofs.TermsOfForms.{AllWritten, Written, also_written, terms_written}

-- What a node stands for, or nothing, has the sort of the label that it is read as, where no non-terminal is seen.
record Labelled (scope : Scope) (meant : Option Item) : Type 0 where
  same : (ss : List ℕ) → item_sort (record { terms = scope; non_terminals = [] }) (item_or meant) ss ≡ label_sort scope (label_of (item_or meant)) ss

module _ (scope : Scope) where
  -- A label has it.
  the_labelled : {l : Label} → Labelled scope (some (the l))
  unfolding item_sort
  the_labelled = record { same = λ ss. refl }

  -- Nothing has none.
  nothing_labelled : Labelled scope nothing
  unfolding item_sort
  nothing_labelled = record { same = λ ss. refl }

  -- A non-terminal has none, and is read as an operator that there is none of.
  unseen_labelled : (A : ℕ) → Labelled scope (some (non_terminal A))
  unfolding item_sort label_sort operator_sort
  unseen_labelled A = record { same = λ ss. rw (le-ltb A 0 (omega arith)) }

  -- One of two items has it where both have.
  either_labelled : (test : Bool) {x y : Option Item} → Labelled scope x → Labelled scope y → Labelled scope (cond test x y)
  either_labelled true p q = p
  either_labelled false p q = q

  -- What a node stands for has it.
  node_labelled : (view : View) (r : Raw) → Written r → Labelled scope (means view r)
  unfolding symbol_means
  node_labelled view (word at head name) w =
      either_labelled (is_word "true" name) the_labelled
      (either_labelled (is_word "false" name) the_labelled
      (either_labelled (ltb (operator_of name) operator_count) (either_labelled (is_word "extract" name) nothing_labelled the_labelled)
      (either_labelled (is_named (names_of view.names) name) the_labelled
      (either_labelled (is_named (defined_names view.defined) name) the_labelled
      (either_labelled (is_named (function_names view.functions) name) the_labelled
      (either_labelled (is_named (names_of view.non_terminals) name) (unseen_labelled _) nothing_labelled))))))
  node_labelled view (number at v) w = nothing_labelled
  node_labelled view (constant at width v) w = the_labelled
  node_labelled view (decimal at head n width) w =
      either_labelled (leb 1 width && leb width max_width && ltb (decimal_value n) (2 ^ width)) the_labelled nothing_labelled
  node_labelled view (cut at head i j) w = either_labelled (leb j i && ltb i max_width) the_labelled nothing_labelled
  node_labelled view (pattern at c s held) w = absurd w

  -- A tree has the sort of its label.
  over_labelled : {meant : Option Item} → Labelled scope meant → (ops : Option (List ℕ))
      → sort_over (item_sort (record { terms = scope; non_terminals = [] }) (item_or meant)) ops ≡ sort_over (label_sort scope (label_of (item_or meant))) ops
  unfolding sort_over
  over_labelled p nothing = refl
  over_labelled p (some ss) = p.same ss

  -- The terms that are read have the sorts of the forms.
  terms_sorts : (view : View) (F : Forest Raw) → AllWritten F
      → form_sorts (record { terms = scope; non_terminals = [] }) (forms_of view F) ≡ sorts_of scope (terms_in (forms_of view F))
  unfolding forms_of form_sorts sorts_of terms_in
  terms_sorts view none w = refl
  terms_sorts view (tree r ops more) (also_written w o m) =
      rw (terms_sorts view ops o, terms_sorts view more m, over_labelled (node_labelled view r w))

module _ {nowhere : ℕ} (view : View) (s : ℕ) (l : Lexeme) (ops : Items) (below : WordsBelow nowhere l) where
  -- A term without a fault has its sort.
  raw_sort : nowhere ≤ body_fault nowhere view s l ops → raw_sorts view (raw_term l ops) ≡ some (s ∷ [])
  raw_sort h = go (ltb (term_fault nowhere view (raw_term l ops)) nowhere) refl h
    where
      F : Forest Raw
      F = raw_term l ops

      go : (b : Bool) → ltb (term_fault nowhere view F) nowhere ≡ b
          → nowhere ≤ cond b (term_fault nowhere view F) (cond (one_sort (raw_sorts view F) s) nowhere (word_of l)) → raw_sorts view F ≡ some (s ∷ [])
      go true e h = absurd (omega (arith, ltb-true (term_fault nowhere view F) nowhere e))
      go false e h = one-sort (raw_sorts view F) s (no_fault (one_sort (raw_sorts view F) s) below.first h)

  -- The term that is read of it has it.
  pub body_sorted : view.non_terminals ≡ [] → nowhere ≤ body_fault nowhere view s l ops → sorts_of (scope_of view).terms (term_of view l ops) ≡ some (s ∷ [])
  body_sorted e h =
      let terms = (scope_of view).terms in
      let sorts : List Named → Option (List ℕ) = λ ns. form_sorts (record { terms = terms; non_terminals = sorts_in ns }) (forms_of view (raw_term l ops)) in
      sym (terms_sorts terms view (raw_term l ops) (terms_written false (tree l ops none)))
      ∙ subst (λ (ns : List Named). sorts ns ≡ some (s ∷ [])) e (raw_sort h)

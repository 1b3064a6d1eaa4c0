-- Forms that have sorts: where the numbers that no sort tells are small, they are proper right sides of rules.
use Prim.Native.Nat.{ℕ, ◌^◌, ◌≤◌, ◌<◌}
use native.Mathlib.Omega.{arith}
use mathlib.Core.Bool.{Bool, true, false, cond, ◌&&◌}
use mathlib.Core.List.{List, []}
use mathlib.Core.Option.{Option, some}
use mathlib.Core.Path.{◌≡◌, refl, ap, ◌∙◌}
use lib.Dec.{eqb, leb, ltb}
use lib.ListN.{length}
use borrow.Author.Tests.{eqb-true, leb-true, ltb-true}
use Rattle.forest.specs.Forest.{Forest, count, none, tree}
use Rattle.forest.proofs.Bools.{and_left, and_right}
use Rattle.forest.proofs.Options.{passed}
use Rattle.word_kinds.specs.Decimals.{decimal_value}
use Rattle.operators.specs.Operators.{operator_count, operator_of}
use Rattle.operators.specs.Sorts.{max_width}
use Rattle.terms.specs.Labels.{Label, defined, function, literal, name, operator}
use Rattle.terms.specs.code.Nodes.{Plain}
use Rattle.terms.specs.Sorts.{label_sort}
use Rattle.terms.proofs.EachOfTrees.{parts}
use Rattle.terms.proofs.Sorted.{joining}
use Rattle.derivation.specs.Derivation.{Item, any_argument, any_literal, non_terminal, the}
use Rattle.derivation.specs.code.Admitted.{Proper}
use Rattle.lexemes.specs.Reserved.{is_word}
use Rattle.term_sorts.specs.Forms.{FormScope, form_sorts, item_sort}
use Rattle.term_nodes.specs.Terms.{Raw, constant, cut, decimal, number, pattern, word}
use Rattle.names.specs.Scopes.{View, defined_names, forms_of, function_names, is_named, item_or, means, names_of, symbol_means}

-- The number of an item that its sort does not tell is small: j of `(_ extract i j)`.
abbrev pub Bounded : Item → Type 0
Bounded (the (literal s v)) = Unit {0}
Bounded (the (name s k)) = Unit {0}
Bounded (the (operator o i j)) = j < max_width
Bounded (the (defined k)) = Unit {0}
Bounded (the (function k)) = Unit {0}
Bounded (non_terminal A) = Unit {0}
Bounded (any_literal s) = Unit {0}
Bounded (any_argument s) = Unit {0}

-- The same of every node.
pub data AllBounded : Forest Item → Type 0 where
  none_bounded : AllBounded none
  also_bounded : {i : Item} {ops more : Forest Item} → Bounded i → AllBounded ops → AllBounded more → AllBounded (tree i ops more)

-- ---- what nodes stand for

-- What a node stands for, or nothing, has small numbers.
record Small (meant : Option Item) : Type 0 where
  bounded : Bounded (item_or meant)

-- One of two has, by a test.
either_small : (test : Bool) {x y : Option Item} → (test ≡ true → Small x) → Small y → Small (cond test x y)
either_small true p q = p refl
either_small false p q = q

module _ (view : View) where
  -- What a node of a term stands for has small numbers.
  node_small : (r : Raw) → Small (means view r)
  unfolding symbol_means
  node_small (word at head n) =
      either_small (is_word "true" n) (λ e. record { bounded = tt })
      (either_small (is_word "false" n) (λ e. record { bounded = tt })
      (either_small (ltb (operator_of n) operator_count)
      (λ e. either_small (is_word "extract" n) (λ x. record { bounded = omega arith }) (record { bounded = omega arith }))
      (either_small (is_named (names_of view.names) n) (λ e. record { bounded = tt })
      (either_small (is_named (defined_names view.defined) n) (λ e. record { bounded = tt })
      (either_small (is_named (function_names view.functions) n) (λ e. record { bounded = tt })
      (either_small (is_named (names_of view.non_terminals) n) (λ e. record { bounded = tt }) (record { bounded = omega arith })))))))
  node_small (number at v) = record { bounded = omega arith }
  node_small (constant at width v) = record { bounded = tt }
  node_small (decimal at head n width) =
      either_small (leb 1 width && leb width max_width && ltb (decimal_value n) (2 ^ width)) (λ e. record { bounded = tt }) (record { bounded = omega arith })
  node_small (cut at head i j) =
      let both = leb j i && ltb i max_width in
      either_small both (λ e. record {
        bounded = omega (arith, leb-true j i (and_left (leb j i) (ltb i max_width) e), ltb-true i max_width (and_right (leb j i) (ltb i max_width) e));
      })
      (record { bounded = omega arith })
  node_small (pattern at true s held) = record { bounded = tt }
  node_small (pattern at false s held) = record { bounded = tt }

  -- So have the forms that terms say.
  pub terms_bounded : (F : Forest Raw) → AllBounded (forms_of view F)
  unfolding forms_of
  terms_bounded none = none_bounded
  terms_bounded (tree r ops more) = also_bounded (node_small r).bounded (terms_bounded ops) (terms_bounded more)

-- ---- forms that have sorts

-- Forms of which there are none.
no_forms : (F : Forest Item) → count F ≡ 0 → F ≡ none
unfolding count
no_forms none h = refl
no_forms (tree i ops rest) h = absurd (omega arith)

module _ (scope : FormScope) where
  -- There is a sort for each form.
  pub sorts_counted : (F : Forest Item) {ss : List ℕ} → form_sorts scope F ≡ some ss → count F ≡ length ss
  unfolding count form_sorts
  sorts_counted none {ss} h = let e : [] ≡ ss = cc in ap length e
  sorts_counted (tree i ops rest) h =
      let p = parts joining (item_sort scope i) (form_sorts scope ops) (form_sorts scope rest) h in
      let later = sorts_counted rest p.rest_have in
      let all = ap length p.together in
      omega arith

  -- A label that has a sort is told by its numbers.
  label_plain : (l : Label) → Bounded (the l) → (ss : List ℕ) {s : ℕ} → label_sort scope.terms l ss ≡ some s → Plain l
  unfolding label_sort
  label_plain (literal s v) b ss h = tt
  label_plain (name s k) b ss h = tt
  label_plain (operator o i j) b ss h = b
  label_plain (defined k) b ss h = tt
  label_plain (function k) b ss h = tt

  module _ (most : ℕ) (few : length scope.non_terminals ≤ most) where
    -- A tree that has a sort is proper where its operands and the trees after it are.
    tree_proper : (i : Item) (ops rest : Forest Item) (ss : List ℕ) {s : ℕ} → item_sort scope i ss ≡ some s → count ops ≡ length ss → Bounded i
        → Proper most ops → Proper most rest → Proper most (tree i ops rest)
    unfolding Proper item_sort
    tree_proper (the l) ops rest ss h c b p q = (label_plain l b ss h, p, q)
    tree_proper (non_terminal A) ops rest ss h c b p q =
        let test = (passed (ltb A (length scope.non_terminals) && eqb (length ss) 0) h).0 in
        let low = ltb-true A (length scope.non_terminals) (and_left _ (eqb (length ss) 0) test) in
        let bare = eqb-true (length ss) 0 (and_right (ltb A (length scope.non_terminals)) _ test) in
        (omega arith, no_forms ops (c ∙ bare), q)
    tree_proper (any_literal s) ops rest ss h c b p q = (no_forms ops (c ∙ eqb-true (length ss) 0 (passed _ h).0), q)
    tree_proper (any_argument s) ops rest ss h c b p q = (no_forms ops (c ∙ eqb-true (length ss) 0 (passed _ h).0), q)

    -- Forms that have sorts, of small numbers, are proper.
    pub sorted_proper : (F : Forest Item) {ss : List ℕ} → form_sorts scope F ≡ some ss → AllBounded F → Proper most F
    unfolding Proper form_sorts
    sorted_proper none h b = tt
    sorted_proper (tree i ops rest) h (also_bounded b o m) =
        let p = parts joining (item_sort scope i) (form_sorts scope ops) (form_sorts scope rest) h in
        tree_proper i ops rest p.operands p.label (sorts_counted ops p.ops_have) b (sorted_proper ops p.ops_have o)
        (sorted_proper rest p.rest_have m)

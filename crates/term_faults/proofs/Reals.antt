-- What the nodes of terms stand for is what a reader makes: names in scope, and literals of their sorts.
use Prim.Native.Nat.{ℕ, suc, ◌+◌, ◌^◌, ◌<◌}
use native.Mathlib.Omega.{arith}
use mathlib.Core.Path.{◌≡◌, refl}
use mathlib.Core.Bool.{Bool, true, false, cond, ◌&&◌, ◌||◌}
use mathlib.Core.List.{List, [], ◌∷◌, ◌++◌, map}
use mathlib.Core.Option.{none as nothing, some}
use borrow.Author.Tests.{leb-true, lt-ltb, ltb-true}
use lib.Dec.{leb, ltb}
use lib.ListN.{get_or, length, length-append, length-map}
use Rattle.forest.specs.Forest.{Forest, none, tree}
use Rattle.forest.specs.Lists.{same_bytes, spelling}
use Rattle.forest.proofs.Bools.{and_left, and_right, apart}
use Rattle.word_kinds.specs.Decimals.{decimal_value}
use Rattle.operators.specs.Operators.{operator_count, operator_of}
use Rattle.operators.specs.Sorts.{Fit, max_width}
use Rattle.derivation.specs.Derivation.{non_terminal, the}
use Rattle.terms.specs.Labels.{defined, function, literal, name, operator}
use Rattle.lexemes.specs.Reserved.{is_word}
use Rattle.term_sorts.specs.code.Signatures.{AllReal, Every, Real}
use Rattle.lexemes.specs.code.Standing.{Source}
use Rattle.lexemes.specs.code.Table.{code_at, literal_code, value_at, width_at}
use Rattle.term_nodes.specs.code.Says.{AllSay, Says}
use Rattle.term_nodes.specs.Terms.{Raw, constant, cut, decimal, number, pattern, word}
use Rattle.forest.specs.Search.{place_in}
use Rattle.names.specs.Scopes.{Defined, Function, Named, View, defined_names, forms_of, function_names, in_order, is_named, item_or, means, names_of, signature_of}
use Rattle.names.specs.Scopes.{named_sorts, symbol_means}
use Rattle.term_faults.specs.Faults.{scope_of}

-- A name that is one of the names has a place among them.
place_low : (names : List (List ℕ)) (k : ℕ) (n : List ℕ) → is_named names n ≡ true → place_in names k n < k + length names
unfolding is_named place_in
place_low [] k n h = apart h
place_low (m ∷ more) k n h = go (same_bytes m n) h (place_low more (k + 1) n)
  where
    go : (here : Bool) → here || is_named more n ≡ true → (is_named more n ≡ true → place_in more (k + 1) n < k + 1 + length more)
        → cond here k (place_in more (k + 1) n) < k + suc (length more)
    go true h later = omega arith
    go false h later = omega (arith, later h)

-- A name is one of the names and a last one, where it is that one or one of the others.
named_last : (names : List (List ℕ)) (m n : List ℕ) → same_bytes m n || is_named names n ≡ true → is_named (names ++ m ∷ []) n ≡ true
unfolding is_named
named_last [] m n h = h
named_last (x ∷ names) m n h = go (same_bytes m n) (same_bytes x n) h (named_last names m n)
  where
    go : (last here : Bool) → last || (here || is_named names n) ≡ true → (last || is_named names n ≡ true → is_named (names ++ m ∷ []) n ≡ true)
        → here || is_named (names ++ m ∷ []) n ≡ true
    go last true h others = refl
    go true false h others = others refl
    go false false h others = others h

-- A name is one of the names in script order.
named_in_order : (names : List (List ℕ)) (n : List ℕ) → is_named names n ≡ true → is_named (in_order names) n ≡ true
unfolding is_named in_order
named_in_order [] n h = h
named_in_order (m ∷ earlier) n h = named_last (in_order earlier) m n (go (same_bytes m n) h (named_in_order earlier n))
  where
    go : (here : Bool) → here || is_named earlier n ≡ true → (is_named earlier n ≡ true → is_named (in_order earlier) n ≡ true)
        → here || is_named (in_order earlier) n ≡ true
    go true h others = refl
    go false h others = others h

-- There are as many names in script order.
length_in_order : (names : List (List ℕ)) → length (in_order names) ≡ length names
unfolding in_order
length_in_order [] = refl
length_in_order (m ∷ earlier) = rw (length-append, length_in_order earlier) (omega arith)

-- A name of things has a place among what else there is of them, in their order and in script order.
module _ {A B : Type 0} (things : List A) (named : A → List ℕ) (other : A → B) (n : List ℕ) (h : is_named (map named things) n ≡ true) where
  -- in their order
  listed_low : place_in (map named things) 0 n < length (map other things)
  listed_low = omega (arith, place_low (map named things) 0 n h, length-map things named, length-map things other)

  -- in script order, where the last stands first
  ordered_low : place_in (in_order (map named things)) 0 n < length (map other things)
  ordered_low =
      let low = place_low (in_order (map named things)) 0 n (named_in_order (map named things) n h) in
      omega (arith, length_in_order (map named things), length-map things named, length-map things other)

module _ (view : View) where
  -- What a symbol stands for.
  symbol_real : (n : List ℕ) → Real (scope_of view) (item_or (symbol_means view n))
  unfolding symbol_means
  symbol_real n =
      go (is_word "true" n) (is_word "false" n) (ltb (operator_of n) operator_count) (is_word "extract" n) (is_named (names_of view.names) n) refl
      (is_named (defined_names view.defined) n) refl (is_named (function_names view.functions) n) refl (is_named (names_of view.non_terminals) n) refl
    where
      k : ℕ
      k = place_in (names_of view.names) 0 n

      go : (t f o x : Bool)
          → (a : Bool) → is_named (names_of view.names) n ≡ a
          → (d : Bool) → is_named (defined_names view.defined) n ≡ d
          → (s : Bool) → is_named (function_names view.functions) n ≡ s
          → (u : Bool) → is_named (names_of view.non_terminals) n ≡ u
          → Real (scope_of view) (item_or (
          cond t (some (the (literal 0 1)))
          (cond f (some (the (literal 0 0)))
          (cond o (cond x nothing (some (the (operator (operator_of n) 0 0))))
          (cond a (some (the (name (get_or (named_sorts view.names) k 0) k)))
          (cond d (some (the (defined (place_in (in_order (defined_names view.defined)) 0 n))))
          (cond s (some (the (function (place_in (in_order (function_names view.functions)) 0 n))))
          (cond u (some (non_terminal (place_in (names_of view.non_terminals) 0 n)))
          nothing))))))))
      go true f o x a ea d ed s es u eu = record { sort = omega arith; value = omega arith }
      go false true o x a ea d ed s es u eu = record { sort = omega arith; value = omega arith }
      go false false true true a ea d ed s es u eu = omega arith
      go false false true false a ea d ed s es u eu = omega arith
      go false false false x true ea d ed s es u eu = (listed_low view.names (λ (m : Named). m.name) (λ (m : Named). m.sort) n ea, refl)
      go false false false x false ea true ed s es u eu =
          ordered_low view.defined (λ (m : Defined). m.name) (λ (m : Defined). m.definition.signature) n ed
      go false false false x false ea false ed true es u eu = ordered_low view.functions (λ (m : Function). m.name) signature_of n es
      go false false false x false ea false ed false es true eu =
          listed_low view.non_terminals (λ (m : Named). m.name) (λ (m : Named). m.sort) n eu
      go false false false x false ea false ed false es false eu = omega arith

  module _ (s : Source) (fit : (i : ℕ) → code_at s.lexemes i ≡ literal_code → Fit (width_at s.lexemes i) (value_at s.lexemes i)) where
    -- What a node stands for.
    node_real : (r : Raw) → Says s r → Real (scope_of view) (item_or (means view r))
    node_real (word at head n) says = symbol_real n
    node_real (number at v) says = omega arith
    node_real (constant at width v) says = rw (says.wide, says.valued) at (fit at says.coded)
    node_real (decimal at head n width) says = go (leb 1 width && leb width max_width) refl (ltb (decimal_value n) (2 ^ width)) refl
      where
        go : (wide : Bool) → leb 1 width && leb width max_width ≡ wide → (small : Bool) → ltb (decimal_value n) (2 ^ width) ≡ small
            → Real (scope_of view) (item_or (cond (wide && small) (some (the (literal width (decimal_value n)))) nothing))
        go true e true f =
            let some = leb-true 1 width (and_left (leb 1 width) (leb width max_width) e) in
            record {
              sort = leb-true width max_width (and_right (leb 1 width) (leb width max_width) e);
              value = rw (lt-ltb 0 width some) (ltb-true (decimal_value n) (2 ^ width) f);
            }
        go true e false f = omega arith
        go false e small f = omega arith
    node_real (cut at head i j) says = go (leb j i && ltb i max_width) refl
      where
        go : (test : Bool) → leb j i && ltb i max_width ≡ test
            → Real (scope_of view) (item_or (cond test (some (the (operator (operator_of (spelling "extract")) i j))) nothing))
        go true e =
            let low = leb-true j i (and_left (leb j i) (ltb i max_width) e) in
            let high = ltb-true i max_width (and_right (leb j i) (ltb i max_width) e) in
            omega arith
        go false e = omega arith
    node_real (pattern at true sort held) says = tt
    node_real (pattern at false sort held) says = tt

    -- What all nodes stand for.
    pub all_real : (F : Forest Raw) → AllSay s F → AllReal (scope_of view) (forms_of view F)
    unfolding AllSay Every forms_of
    all_real none say = tt
    all_real (tree r ops rest) say = (node_real r say.0, all_real ops say.1, all_real rest say.2)

-- Rules of a grammar that passes: each has the sort of its non-terminal, of which there is one for each group that is listed.
use Prim.Native.Nat.{ℕ, zero, suc, ◌+◌, ◌≤◌, ◌<◌}
use native.Mathlib.Omega.{arith}
use mathlib.Core.Bool.{Bool, cond, false, true}
use mathlib.Core.List.{List, [], ◌∷◌, ◌++◌, map}
use mathlib.Core.Option.{Option, none as nothing, some}
use mathlib.Core.Path.{◌≡◌, refl}
use lib.Dec.{eqb}
use lib.ListN.{get_or, length}
use borrow.Author.Tests.{eqb-true, ne_eqb}
use Rattle.forest.specs.Forest.{count, none, tree}
use Rattle.forest.proofs.Bools.{apart}
use Rattle.derivation.specs.Derivation.{Rule, form_of, head_of, rule}
use Rattle.derivation.specs.Sorts.{form_sorts}
use Rattle.words.specs.Trees.{word_of}
use Rattle.lexemes.specs.Lists.{Items, inside, item}
use Rattle.shapes.specs.Shapes.{attributes_of, is_annotated}
use Rattle.names.specs.New.{named_by}
use Rattle.names.specs.Scopes.{Named, View, forms_of as formIn, named_sorts}
use Rattle.term_nodes.specs.Rules.{Ruled, rules_in, rules_of, weight_in}
use Rattle.term_faults.specs.Faults.{one_sort, raw_sorts, rule_misfit, scope_of}
use Rattle.written_sorts.specs.Written.{sort_of}
use Rattle.grammars.specs.Listing.{listing_misfit}
use Rattle.script.proofs.WordsBelow.{Below, after_below, inside_below, item_below, no_fault}

-- A term of one sort has that sort.
pub one-sort : (sorts : Option (List ℕ)) (s : ℕ) → one_sort sorts s ≡ true → sorts ≡ some (s ∷ [])
one-sort nothing s h = apart h
one-sort (some []) s h = apart h
one-sort (some (t ∷ [])) s h = rw (eqb-true t s h)
one-sort (some (t ∷ u ∷ more)) s h = apart h

-- A rule's first word and its attributes are below nowhere, and its non-terminal is one of the first `most`.
pub record Placed (nowhere most : ℕ) (r : Ruled) : Type 0 where
  pub first : r.first < nowhere
  pub attributes : Below nowhere r.attributes
  pub head : r.head < most

-- The same of all rules.
pub data AllPlaced (nowhere most : ℕ) : List Ruled → Type 0 where
  no_rule : AllPlaced nowhere most []
  also : {r : Ruled} {more : List Ruled} → Placed nowhere most r → AllPlaced nowhere most more → AllPlaced nowhere most (r ∷ more)

module _ {nowhere most : ℕ} where
  -- The same of rules one after the other.
  placed_append : {rs qs : List Ruled} → AllPlaced nowhere most rs → AllPlaced nowhere most qs → AllPlaced nowhere most (rs ++ qs)
  placed_append no_rule q = q
  placed_append (also p more) q = also p (placed_append more q)

  -- The rules of one non-terminal are so.
  rules_placed : (A : ℕ) → A < most → (F : Items) → Below nowhere F → AllPlaced nowhere most (rules_of A F)
  unfolding Below rules_of
  rules_placed A h none b = no_rule
  rules_placed A h (tree l ops more) b =
      also (record { first = b.0.first; attributes = attributes (is_annotated l ops); head = h }) (rules_placed A h more b.2)
    where
      attributes : (t : Bool) → Below nowhere (cond t (attributes_of ops) none)
      attributes true = after_below nowhere 2 ops b.1
      attributes false = tt

  -- The rules of the groups are so, where there are no more groups than non-terminals.
  pub groups_placed : (A : ℕ) (groups : Items) → A + count groups ≤ most → Below nowhere groups → AllPlaced nowhere most (rules_in A groups)
  unfolding Below count rules_in
  groups_placed A none h b = no_rule
  groups_placed A (tree l ops more) h b =
      placed_append (rules_placed A (omega arith) (inside 2 ops) (inside_below nowhere 2 ops b.1)) (groups_placed (A + 1) more (omega arith) b.2)

module _ (view : View) where
  -- The rules that are said.
  abbrev pub said : List Ruled → List Rule
  said rs = map (λ (r : Ruled). rule r.head (weight_in r) (formIn view r.side)) rs

  module _ {nowhere most : ℕ} where
    -- The non-terminal of each rule is one of the first `most`.
    pub heads_below : {rs : List Ruled} → AllPlaced nowhere most rs → (r : ℕ) → r < length (said rs) → head_of (said rs) r < most
    unfolding head_of
    heads_below no_rule r h = absurd (omega arith)
    heads_below (also p more) zero h = p.head
    heads_below (also p more) (suc r) h = heads_below more r (omega arith)

    -- Each rule without a misfit has its non-terminal's sort.
    pub rules_sorted : {rs : List Ruled} → AllPlaced nowhere most rs → nowhere ≤ rule_misfit nowhere view rs → (r : ℕ) → r < length (said rs)
        → form_sorts (scope_of view) (form_of (said rs) r) ≡ some (get_or (named_sorts view.non_terminals) (head_of (said rs) r) 0 ∷ [])
    unfolding form_of head_of rule_misfit
    rules_sorted no_rule f r h = absurd (omega arith)
    rules_sorted (also {r = x} p more) f zero h =
        let same = one_sort (raw_sorts view x.side) (get_or (named_sorts view.non_terminals) x.head 0) in
        one-sort (raw_sorts view x.side) _ (no_fault same p.first (omega arith))
    rules_sorted (also p more) f (suc r) h = rules_sorted more (omega arith) r (omega arith)

-- A listing without a misfit has a group for each non-terminal.
pub listed : {nowhere close : ℕ} → close < nowhere → (ns : List Named) (groups : Items) → Below nowhere groups
    → nowhere ≤ listing_misfit nowhere close ns groups → count groups ≡ length ns
unfolding Below count listing_misfit
listed h [] none b f = refl
listed h (n ∷ more) none b f = absurd (omega arith)
listed h [] (tree l ops groups) b f = absurd (omega (arith, (item_below (omega arith) 0 ops b.1).first))
listed h (n ∷ more) (tree l ops groups) b f = let later = listed h more groups b.2 (omega arith) in omega arith

-- The first of the non-terminals that pairs say, where there is no misfit: it is of the function's sort.
pub starts : {nowhere close : ℕ} (result : ℕ) → close < nowhere → (pairs : Items) → Below nowhere pairs
    → nowhere ≤ cond (eqb (count pairs) 0) close
    (cond (eqb (sort_of (item 1 (inside 0 pairs)) (inside 1 (inside 0 pairs))) result) nowhere (word_of (item 0 (inside 0 pairs))))
    → (0 < length (named_by pairs)) × (get_or (named_sorts (named_by pairs)) 0 0 ≡ result)
unfolding Below count inside named_by
starts result h none b f = absurd (omega arith)
starts result h (tree l ops more) b f =
    let said = sort_of (item 1 ops) (inside 1 ops) in
    let some_pair = ne_eqb (suc (count more)) 0 (λ e. omega arith) in
    let test = no_fault (eqb said result) (item_below (omega arith) 0 ops b.1).first (rw some_pair at f) in
    (omega arith, eqb-true said result test)

-- The start of a grammar: the first of the pairs that declare its non-terminals.
use Prim.Native.Nat.{ℕ, zero, suc, ◌+◌, ◌≤◌, ◌<◌}
use native.Mathlib.Omega.{arith}
use mathlib.Core.Path.{◌≡◌, sym, ◌∙◌}
use mathlib.Core.Bool.{Bool, true, false}
use mathlib.Core.List.{List}
use lib.Dec.{eqb}
use borrow.Author.Tests.{eq-eqb, eqb-false, ne_eqb}
use Rattle.forest.specs.Forest.{count, none, tree}
use Rattle.forest.proofs.Bools.{and_left, and_right}
use Rattle.words.specs.Trees.{Lexeme, word_of}
use Rattle.lexemes.specs.Lists.{Items, inside, item}
use Rattle.lexemes.specs.code.Standing.{ItemAt, ListAt}
use Rattle.lexemes.proofs.Listed.{list_from}
use Rattle.shapes.specs.Shapes.{all, pair_shape}
use Rattle.written_sorts.specs.code.Places.{ShapedAt, SortAt}
use Rattle.written_sorts.specs.Written.{sort_of}
use Rattle.written_sorts.proofs.Walked.{come_first, item_come, placed}
use Rattle.written_sorts.proofs.PairParts.{Sorted, pair_sort, shaped_come, sorted}
use Rattle.grammars.specs.Listing.{start_misfit}
use Rattle.grammars.specs.code.Listed.{PairsAt}

-- one of items that all are of a shape
pub item_shaped : (shape : Lexeme → Items → Bool) (F : Items) → all shape F ≡ true → (n : ℕ) → n < count F → shape (item n F) (inside n F) ≡ true
unfolding all count inside item
item_shaped shape none e n h = absurd (omega arith)
item_shaped shape (tree l ops more) e zero h = and_left (shape l ops) (all shape more) e
item_shaped shape (tree l ops more) e (suc n) h = item_shaped shape more (and_right (shape l ops) (all shape more) e) n (omega arith)

-- the name of a pair or a group stands behind its bracket
pub name_placed : {lexemes : List ℕ} {at : ℕ} (x : ItemAt lexemes at) {n : ℕ} → Sorted x.label x.operands n → 1 ≤ n
    → word_of (item 0 x.operands) ≡ at + 1
name_placed x s h =
    let list = list_from x s.a_list in
    placed (item_come list (come_first list) (omega (arith, s.long))).stands

module _ {lexemes : List ℕ} {at : ℕ} {empty : Bool} (told : (x : ListAt lexemes at) → empty ≡ eqb (count x.operands) 0) where
  module _ (t : empty ≡ false) where
    -- a list that is not empty has a pair
    pub some_pairs : (p : PairsAt lexemes at) → 0 < count p.here.operands
    some_pairs p = let ne = eqb-false (count p.here.operands) 0 (sym (told p.here) ∙ t) in omega arith

    -- the start
    abbrev pub start_pair : (p : PairsAt lexemes at) → ShapedAt pair_shape lexemes (at + 1)
    start_pair p =
        shaped_come p.here (come_first p.here) (some_pairs p) (item_shaped pair_shape p.here.operands p.shaped 0 (some_pairs p))

    -- its sort
    abbrev pub start_sort : (p : PairsAt lexemes at) → SortAt lexemes (at + 1 + 2)
    start_sort p = pair_sort (start_pair p)

    module _ {sort : ℕ} (known : (q : SortAt lexemes (at + 1 + 2)) → sort ≡ sort_of q.here.label q.here.operands) {result : ℕ} (nowhere : ℕ) where
      -- the start has the function's sort
      pub start_fits : sort ≡ result → (p : PairsAt lexemes at) → nowhere ≡ start_misfit nowhere result p.here.close p.here.operands
      start_fits e p = rw (sym (told p.here) ∙ t, ← known (start_sort p), eq-eqb sort result e)

      -- the start has another sort
      pub start_differs : (sort ≡ result → ⊥) → (p : PairsAt lexemes at) → at + 1 + 1 ≡ start_misfit nowhere result p.here.close p.here.operands
      start_differs other p =
          let s = start_pair p in
          rw (sym (told p.here) ∙ t, ← known (start_sort p), ne_eqb sort result other)
          (sym (name_placed s.here (sorted s.here.label s.here.operands 2 s.shaped) (omega arith)))

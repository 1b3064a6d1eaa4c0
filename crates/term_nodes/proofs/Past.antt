-- The item past a limit.
use Prim.Native.Nat.{ℕ, zero, suc, ◌≤◌, ◌<◌}
use native.Mathlib.Omega.{arith}
use mathlib.Core.Path.{◌≡◌, refl, sym, subst}
use mathlib.Core.Bool.{Bool, true, false, cond}
use mathlib.Core.List.{List}
use lib.Dec.{leb}
use borrow.Author.Tests.{leb-false, leb-true}
use Rattle.forest.specs.Forest.{count, none, tree}
use Rattle.words.specs.Trees.{word_of}
use Rattle.lexemes.specs.Lists.{Items, after, item}
use Rattle.lexemes.specs.code.Standing.{Between, Reached, Stands}
use Rattle.lexemes.proofs.Standing.{none_left, some_left}
use Rattle.lexemes.proofs.Listed.{from_item}
use Rattle.written_sorts.proofs.Walked.{placed}
use Rattle.term_nodes.specs.Rules.{item_past}

-- past the last item there is none
none_past : (n : ℕ) (F : Items) → count F ≤ n → after n F ≡ none
unfolding after count
none_past zero none h = refl
none_past (suc n) none h = refl
none_past zero (tree l ops more) h = absurd (omega arith)
none_past (suc n) (tree l ops more) h = none_past n more (omega arith)

module _ {lexemes : List ℕ} {first close most at : ℕ} (known : (b : Between lexemes first close) → Reached lexemes first close most b at) (nowhere : ℕ) where
  -- an item stands at the word that was found
  pub past_found : at < close → (b : Between lexemes first close) → at ≡ item_past nowhere most b.items
  past_found h b = go (leb (count b.items) most) refl
    where
      go : (t : Bool) → leb (count b.items) most ≡ t → at ≡ cond t nowhere (word_of (item most b.items))
      go true e =
          let over = none_past most b.items (leb-true _ _ e) in
          let z : ◌≡◌ {A = ℕ} 0 1 = cc (over, (some_left (known b).stands h).is) in
          absurd (omega arith)
      go false e =
          sym (placed (subst (λ (F : Items). Stands b.source at F close) (from_item most b.items (leb-false _ _ e)) (known b).stands))

  -- and there is none where the items ended
  pub none_found : close ≤ at → (b : Between lexemes first close) → nowhere ≡ item_past nowhere most b.items
  none_found h b = go (leb (count b.items) most) refl
    where
      go : (t : Bool) → leb (count b.items) most ≡ t → nowhere ≡ cond t nowhere (word_of (item most b.items))
      go true e = refl
      go false e =
          let z : ◌≡◌ {A = ℕ} 0 1 = cc (from_item most b.items (leb-false _ _ e), none_left (known b).stands h) in
          absurd (omega arith)

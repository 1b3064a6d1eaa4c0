-- The laws of trees of words: what stands from a word on, by what the word is.
use Prim.Native.Nat.{ℕ, zero, suc, ◌+◌, ◌-◌, ◌≤◌}
use native.Mathlib.Nat.{sub_self}
use native.Mathlib.Numerals.{add-one}
use native.Mathlib.Omega.{arith}
use mathlib.Core.Path.{◌≡◌, refl, sym, ap, ◌∙◌}
use mathlib.Core.Bool.{true, false, cond}
use mathlib.Core.List.{List, [], ◌∷◌}
use borrow.Author.Tests.{ne_eqb}
use lib.Dec.{eqb}
use lib.ListN.{length, drop, drop_of_length-le}
use lib.Seq.{drop-drop}
use Rattle.forest.specs.Forest.{Forest, none, tree}
use Rattle.words.specs.Table.{closes, opens, past_close, next_of}
use Rattle.word_kinds.specs.declared.Kind.{Kind}
use Rattle.word_kinds.specs.declared.Kind.TheVariants.{Open, Close, Numeral, Literal, Symbol, Keyword, Faulty}
use Rattle.words.specs.Trees.{Level, Lexeme, bytes_of, inner, keyword, levels_at, levels_before, list, literal, numeral, outer, symbol, trees_from}
use Rattle.words.specs.Words.{Word}
use Rattle.words.proofs.Chains.{close_bounds}
use Rattle.words.proofs.Offsets.{drop_past}

-- the open lists without the n innermost and one more
abbrev beyond : ℕ → List Level → List Level
beyond zero levels = outer levels
beyond (suc n) levels = beyond n (outer levels)

-- another innermost list changes nothing beyond it
beyond_other : (n : ℕ) (l : Level) (levels : List Level) → beyond n (l ∷ outer levels) ≡ beyond n levels
beyond_other zero l levels = refl
beyond_other (suc n) l levels = refl

-- where lists are closed, by what the first word is
module _ (w : Word) (ws : List Word) (n i : ℕ) where
  close_open : opens w.kind ≡ true → past_close (w ∷ ws) n i ≡ past_close ws (n + 1) (i + 1)
  unfolding past_close
  close_open o = rw o

  close_other : opens w.kind ≡ false → closes w.kind ≡ false → past_close (w ∷ ws) n i ≡ past_close ws n (i + 1)
  unfolding past_close
  close_other o c = rw (o, c)

  close_close : opens w.kind ≡ false → closes w.kind ≡ true → past_close (w ∷ ws) n i ≡ cond (eqb n 0) (i + 1) (past_close ws (n - 1) (i + 1))
  unfolding past_close
  close_close o c = rw (o, c)

-- the open lists past word m, in words of which the first, w, has index i
module _ (text : List ℕ) (past : ℕ) (w : Word) (ws : List Word) (i : ℕ) where
  abbrev beyond_words : ℕ → List Level
  beyond_words m = levels_at text past (drop (m - i) (w ∷ ws)) m

  later : (m : ℕ) → i + 1 ≤ m → beyond_words m ≡ levels_at text past (drop (m - (i + 1)) ws) m
  later m h = rw (drop_past w ws i m h)

  -- what is beyond n lists and one more from the second word on
  Later : ℕ → Type 0
  Later n = beyond n (levels_at text past ws (i + 1)) ≡ levels_at text past (drop (past_close ws n (i + 1) - (i + 1)) ws) (past_close ws n (i + 1))

  to_close : (n m : ℕ) → m ≡ past_close ws n (i + 1) → Later n → beyond n (levels_at text past ws (i + 1)) ≡ beyond_words m
  unfolding Later
  to_close n m e r = r ∙ sym (ap beyond_words e ∙ later (past_close ws n (i + 1)) (close_bounds ws n (i + 1)).0)

  past_step : (n : ℕ) (kind : Kind) → w.kind ≡ kind → ((n : ℕ) → Later n)
      → beyond n (levels_before text past i w kind (levels_at text past ws (i + 1))) ≡ beyond_words (past_close (w ∷ ws) n i)
  unfolding levels_before
  past_step n Open e r =
      let c : past_close (w ∷ ws) n i ≡ past_close ws (suc n) (i + 1) = close_open w ws n i (ap opens e) ∙ ap (λ (k : ℕ). past_close ws k (i + 1)) (add-one n) in
      beyond_other n _ (outer (levels_at text past ws (i + 1))) ∙ to_close (suc n) _ c (r (suc n))
  past_step zero Close e r =
      let c : past_close (w ∷ ws) 0 i ≡ i + 1 = close_close w ws 0 i (ap opens e) (ap closes e) in
      let one : i + 1 - i ≡ 1 = omega arith in
      rw (c, one)
  past_step (suc n) Close e r =
      let some : eqb (suc n) 0 ≡ false = ne_eqb (suc n) 0 (λ z. omega arith) in
      let less : suc n - 1 ≡ n = omega arith in
      let c : past_close (w ∷ ws) (suc n) i ≡ past_close ws n (i + 1) = close_close w ws (suc n) i (ap opens e) (ap closes e) ∙ rw (some, less) in
      to_close n _ c (r n)
  past_step n (Numeral v) e r = beyond_other n _ (levels_at text past ws (i + 1)) ∙ to_close n _ (close_other w ws n i (ap opens e) (ap closes e)) (r n)
  past_step n (Literal width v) e r = beyond_other n _ (levels_at text past ws (i + 1)) ∙ to_close n _ (close_other w ws n i (ap opens e) (ap closes e)) (r n)
  past_step n Symbol e r = beyond_other n _ (levels_at text past ws (i + 1)) ∙ to_close n _ (close_other w ws n i (ap opens e) (ap closes e)) (r n)
  past_step n Keyword e r = beyond_other n _ (levels_at text past ws (i + 1)) ∙ to_close n _ (close_other w ws n i (ap opens e) (ap closes e)) (r n)
  past_step n (Faulty fault) e r = to_close n _ (close_other w ws n i (ap opens e) (ap closes e)) (r n)

-- past the bracket that closes n lists and one more, those are open that were open around them
past_levels : (text : List ℕ) (past : ℕ) (ws : List Word) (n i : ℕ)
    → beyond n (levels_at text past ws i) ≡ levels_at text past (drop (past_close ws n i - i) ws) (past_close ws n i)
unfolding levels_at past_close Later
past_levels text past [] n i = rw (sub_self i) (none_beyond n)
  where
    none_beyond : (n : ℕ) → beyond n [] ≡ []
    none_beyond zero = refl
    none_beyond (suc n) = none_beyond n
past_levels text past (w ∷ ws) n i = past_step text past w ws i n w.kind refl (λ m. past_levels text past ws m (i + 1))

-- ---- the four laws: the end, a closing bracket, a word, a list

-- the trees of a text's words, from word i on
abbrev pub trees_at : (text : List ℕ) → List Word → ℕ → Forest Lexeme
trees_at text ws i = trees_from text (length ws) (drop i ws) i

module _ (text : List ℕ) (ws : List Word) (i : ℕ) where
  pub trees_end : length ws ≤ i → trees_at text ws i ≡ none
  unfolding trees_from levels_at
  trees_end h = rw (drop_of_length-le ws h)

  module _ (w : Word) (here : drop i ws ≡ w ∷ drop (i + 1) ws) where
    pub trees_close : w.kind ≡ Close → trees_at text ws i ≡ none
    unfolding trees_from levels_at levels_before
    trees_close e = rw (here, e)

    pub trees_numeral : (v : ℕ) → w.kind ≡ Numeral v → trees_at text ws i ≡ tree (numeral i v) none (trees_at text ws (i + 1))
    unfolding trees_from levels_at levels_before
    trees_numeral v e = rw (here, e)

    pub trees_literal : (width v : ℕ) → w.kind ≡ Literal width v → trees_at text ws i ≡ tree (literal i width v (bytes_of text w)) none (trees_at text ws (i + 1))
    unfolding trees_from levels_at levels_before
    trees_literal width v e = rw (here, e)

    pub trees_symbol : w.kind ≡ Symbol → trees_at text ws i ≡ tree (symbol i (bytes_of text w)) none (trees_at text ws (i + 1))
    unfolding trees_from levels_at levels_before
    trees_symbol e = rw (here, e)

    pub trees_keyword : w.kind ≡ Keyword → trees_at text ws i ≡ tree (keyword i (bytes_of text w)) none (trees_at text ws (i + 1))
    unfolding trees_from levels_at levels_before
    trees_keyword e = rw (here, e)

    pub trees_list : w.kind ≡ Open
        → trees_at text ws i ≡
        tree (list i (inner (length ws) (levels_at text (length ws) (drop (i + 1) ws) (i + 1))).close) (trees_at text ws (i + 1))
        (trees_at text ws (next_of w (drop (i + 1) ws) i))
    unfolding trees_from levels_at levels_before next_of
    trees_list e =
        let close = past_close (drop (i + 1) ws) 0 (i + 1) in
        let sum : i + 1 + (close - (i + 1)) ≡ close = omega (arith, (close_bounds (drop (i + 1) ws) 0 (i + 1)).0) in
        let around : outer (levels_at text (length ws) (drop (i + 1) ws) (i + 1)) ≡ levels_at text (length ws) (drop close ws) close =
        past_levels text (length ws) (drop (i + 1) ws) 0 (i + 1) ∙ rw (drop-drop (close - (i + 1)) (i + 1) ws, sum) in
        rw (here, e, around)

-- The offsets of a text's words.
use Prim.Native.Nat.{ℕ, zero, suc, ◌≤◌, ◌<◌}
use native.Mathlib.Omega.{arith}
use mathlib.Core.Path.{◌≡◌, refl, sym, ◌∙◌}
use mathlib.Core.List.{List, [], ◌∷◌}
use lib.ListN.{drop, length}
use Rattle.forest.proofs.Lists.{stands}
use Rattle.words.specs.Words.{Word, words_of}
use Rattle.lexemes.specs.code.Table.{start_at}
use Rattle.lexemes.proofs.Said.{lexeme_says}
use Rattle.script.specs.Outcome.{offset_of, start_of}
use Rattle.texts.specs.code.Texts.{Placed}

-- the offset of a word that is there
start_there : (past : ℕ) (ws : List Word) (i : ℕ) (w : Word) (later : List Word) → drop i ws ≡ w ∷ later → start_of past ws i ≡ w.start
unfolding start_of
start_there past [] zero w later e = let z : ◌≡◌ {A = ℕ} 0 1 = cc in absurd (omega arith)
start_there past [] (suc i) w later e = let z : ◌≡◌ {A = ℕ} 0 1 = cc in absurd (omega arith)
start_there past (v ∷ ws) zero w later e = let q : v ≡ w = cc in rw q
start_there past (v ∷ ws) (suc i) w later e = start_there past ws i w later e

-- and of one past the last
start_past : (past : ℕ) (ws : List Word) (i : ℕ) → length ws ≤ i → start_of past ws i ≡ past
unfolding start_of
start_past past [] i h = refl
start_past past (w ∷ ws) zero h = absurd (omega arith)
start_past past (w ∷ ws) (suc i) h = start_past past ws i (omega arith)

module _ {text lexemes : List ℕ} {count : ℕ} (placed : Placed text lexemes count) {i : ℕ} where
  -- the table has the offset of each word
  pub offset_there : i < count → start_at lexemes i ≡ offset_of text i
  offset_there h =
      let st = stands (words_of text) i (omega (arith, placed.counted)) in
      lexeme_says text i st.here _ st.is placed.rest placed.is_lexemes 3 (omega arith)
      ∙ sym (start_there (length text) (words_of text) i st.here _ st.is)

  -- past the last word the offset is the text's length
  pub offset_past : count ≤ i → length text ≡ offset_of text i
  offset_past h = sym (start_past (length text) (words_of text) i (omega (arith, placed.counted)))

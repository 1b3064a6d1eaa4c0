-- Items that stand amid others, and nodes that rise: how many words there are for them.
use Prim.Native.Nat.{ℕ, zero, suc, ◌+◌, ◌≤◌, ◌<◌}
use native.Mathlib.Omega.{arith}
use mathlib.Core.Path.{◌≡◌, refl, sym, ◌∙◌}
use Rattle.forest.specs.Forest.{Forest, count, none, tree}
use Rattle.forest.specs.code.Cursors.{size}
use Rattle.forest.proofs.Bools.{apart}
use Rattle.words.specs.Trees.{Lexeme}
use Rattle.lexemes.specs.Lists.{Items, after}
use Rattle.lexemes.specs.code.Standing.{Source, Stands, bracketed, ends, word}
use Rattle.lexemes.proofs.Standing.{forward}
use Rattle.written_sorts.proofs.Walked.{placed}
use Rattle.term_nodes.specs.Terms.{Raw}
use Rattle.term_faults.specs.code.Bodies.{Rising}

-- Items that stand from word j to before word f begin at word i or behind it, and end before word e.
pub record Amid (i j f e : ℕ) : Type 0 where
  pub begins : i ≤ j
  pub ends_there : f ≡ e

module _ {s : Source} where
  -- items that stand from one word on end before one word
  one_end : {i j e f : ℕ} {F : Items} → Stands s i F e → Stands s j F f → j ≡ i → f ≡ e
  one_end ends ends same = same
  one_end (word w rest) (word v other) same = one_end rest other (omega arith)
  one_end (bracketed b inner rest) (bracketed d within other) same = one_end rest other refl
  one_end (word w rest) (bracketed d within other) same = apart (sym w.no_list)
  one_end (bracketed b inner rest) (word v other) same = apart (sym v.no_list)

  -- and they begin at one word
  one_place : {i j e f : ℕ} {l : Lexeme} {ops more : Items} → Stands s i (tree l ops more) e → Stands s j (tree l ops more) f → Amid i j f e
  one_place {i} {j} {e} {f} {l} {ops} {more} stands other =
      let same : j ≡ i = sym (placed other) ∙ placed stands in
      record { begins = omega arith; ends_there = one_end stands other same }

  -- the items from one of them on stand behind those before it and end where all of them end
  pub amid : (n : ℕ) {i j e f : ℕ} {F : Items} → Stands s i F e → Stands s j (after n F) f → n < count F → Amid i j f e
  unfolding after count
  amid zero ends other h = absurd (omega arith)
  amid zero (word w rest) other h = one_place (word w rest) other
  amid zero (bracketed b inner rest) other h = one_place (bracketed b inner rest) other
  amid (suc n) ends other h = absurd (omega arith)
  amid (suc n) (word w rest) other h = let a = amid n rest other (omega arith) in record { begins = omega (arith, a.begins); ends_there = a.ends_there }
  amid (suc n) (bracketed b inner rest) other h =
      let a = amid n rest other (omega arith) in
      record { begins = omega (arith, a.begins, forward inner); ends_there = a.ends_there }

-- nodes that rise between two words are no more than these
pub rising_few : (F : Forest Raw) {low high : ℕ} → Rising low high F → low ≤ high → low + size F ≤ high
unfolding Rising size
rising_few none r h = omega arith
rising_few (tree root ops rest) (mid, above, below, by, inner, later) h = omega (arith, rising_few ops inner below, rising_few rest later by)

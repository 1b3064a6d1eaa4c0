-- Lists, and whether they hold anything.
use Prim.Native.Nat.{ℕ, suc, ◌+◌, ◌-◌}
use native.Mathlib.Omega.{arith}
use mathlib.Core.Path.{◌≡◌, refl, sym, ◌∙◌}
use mathlib.Core.Bool.{Bool, true, false, cond}
use mathlib.Core.List.{List}
use lib.Dec.{eqb}
use borrow.Author.Tests.{eq-eqb, eqb-true, ne_eqb}
use Rattle.forest.specs.Forest.{count, tree}
use Rattle.forest.proofs.Bools.{apart}
use Rattle.words.specs.Trees.{list}
use Rattle.lexemes.specs.Lists.{Items}
use Rattle.lexemes.specs.code.Table.{next_at}
use Rattle.lexemes.specs.code.Standing.{ListAt, Source, Stands, bracketed, ends, word}
use Rattle.lexemes.proofs.Listed.{held}
use Rattle.lexemes.proofs.Standing.{forward}

module _ {s : Source} where
  -- the items of a list stand from behind its bracket to the one that closes it
  pub within : {i j c e : ℕ} {ops more : Items} → Stands s j (tree (list i c) ops more) e → Stands s (i + 1) ops c
  within (word w rest) = apart (sym w.no_list)
  within (bracketed b inner rest) = inner

  -- no items stand just where they end at the word at which they begin
  by_count : {i e : ℕ} {F : Items} → Stands s i F e → eqb e i ≡ eqb (count F) 0
  unfolding count
  by_count {i} ends = eq-eqb i i refl
  by_count {i} {e} (word {more = more} w rest) =
      let h = forward rest in
      ne_eqb e i (λ q. omega arith) ∙ sym (ne_eqb (suc (count more)) 0 (λ q. omega arith))
  by_count {i} {e} (bracketed {more = more} b inner rest) =
      let h = forward inner in
      let k = forward rest in
      ne_eqb e i (λ q. omega arith) ∙ sym (ne_eqb (suc (count more)) 0 (λ q. omega arith))

module _ {lexemes : List ℕ} {at : ℕ} where
  -- the bracket that closes a list stands before the word past it
  pub close_is : (close : ℕ) → next_at lexemes at ≡ close + 1 → (x : ListAt lexemes at) → x.close ≡ close
  close_is close e x =
      let h = held x in
      let q : x.close ≡ h.close = cc h.label in
      omega (arith, h.next)

  -- a bracket stands before the word past a list
  pub before_next : ListAt lexemes at → {next : ℕ} → next ≡ next_at lexemes at → next_at lexemes at ≡ next - 1 + 1
  before_next x e = omega (arith, (held x).next)

  -- a list is empty just when its brackets stand side by side
  pub emptiness : {next : ℕ} → next ≡ next_at lexemes at → (x : ListAt lexemes at) → eqb (next - 1) (at + 1) ≡ eqb (count x.operands) 0
  emptiness {next} e x = rw (← close_is (next - 1) (before_next x e) x) (by_count (within x.stands))

  module _ {empty : Bool} (told : (x : ListAt lexemes at) → empty ≡ eqb (count x.operands) 0) where
    -- the word behind the bracket of an empty list closes it too early
    pub closed_early : empty ≡ true → (x : ListAt lexemes at) (other : ℕ) → at + 1 ≡ cond (eqb (count x.operands) 0) x.close other
    closed_early t x other =
        let none : eqb (count x.operands) 0 ≡ true = sym (told x) ∙ t in
        rw none (sym (eqb-true x.close (at + 1) (by_count (within x.stands) ∙ none)))

    -- a list that is not empty is not closed too early
    pub closed_later : empty ≡ false → (x : ListAt lexemes at) (other : ℕ) → other ≡ cond (eqb (count x.operands) 0) x.close other
    closed_later t x other = rw (sym (told x) ∙ t)

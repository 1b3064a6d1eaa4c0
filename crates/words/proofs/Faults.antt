-- How many lists are open after a word, as the returns ask it.
use Prim.Native.Nat.{ℕ, ◌+◌, ◌-◌, ◌≤◌}
use native.Mathlib.Omega.{arith}
use mathlib.Core.Path.{◌≡◌, refl}
use mathlib.Core.Bool.{Bool, true, false, ◌&&◌, cond}
use borrow.Author.Tests.{ne_eqb, ltb-false}
use lib.Dec.{eqb, ltb}
use Rattle.forest.proofs.Bools.{and_left}
use Rattle.words.specs.Table.{kind_number}
use Rattle.words.specs.Reading.{depth_after}
use Rattle.word_kinds.specs.declared.Kind.{Kind}

module _ (kind : Kind) (depth number : ℕ) (e : number ≡ kind_number kind) where
  pub depth_open : number ≡ 1 → depth + 1 ≡ depth_after kind depth
  unfolding depth_after
  depth_open t = rw (← e, t)

  module _ (other : number ≡ 1 → ⊥) where
    pub depth_close : eqb number 2 && ltb 0 depth ≡ true → depth - 1 ≡ depth_after kind depth
    unfolding depth_after
    depth_close t = rw (← e, ne_eqb number 1 other, and_left (eqb number 2) (ltb 0 depth) t)

    pub depth_same : eqb number 2 && ltb 0 depth ≡ false → depth ≡ depth_after kind depth
    unfolding depth_after
    depth_same t = rw (← e, ne_eqb number 1 other) (go (eqb number 2) t)
      where
        go : (shut : Bool) → shut && ltb 0 depth ≡ false → depth ≡ cond shut (depth - 1) depth
        go true t = let z : depth ≤ 0 = ltb-false 0 depth t in omega arith
        go false t = refl

-- The search for the first wrong block.
use mathlib.Core.Path.{◌≡◌, sym, ap, ◌∙◌}
use mathlib.Core.Bool.{Bool, true, false}
use Prim.Native.Nat.{ℕ, suc, ◌+◌, ◌-◌, ◌<◌, ◌≤◌}
use native.Mathlib.Omega.{arith}
use mathlib.Core.List.{List}
use mathlib.Core.Option.{none, some}
use Rattle.blocks.specs.Blocks.{blocks_in, first_wrong, right_block, wrong_from}

-- the blocks before k are right
pub record Inv (file : List ℕ) (k : ℕ) : Type 0 where
  pub left : wrong_from file k (blocks_in file - k) ≡ first_wrong file

pub search_start : {file : List ℕ} → Inv file 0
unfolding first_wrong
search_start {file} = record { left = ap (wrong_from file 0) (omega arith) }

module _ {file : List ℕ} {count k : ℕ} (all : count ≡ blocks_in file) (v : Inv file k) where
  pub search_end : count ≤ k → first_wrong file ≡ none
  unfolding wrong_from
  search_end h =
      let z : blocks_in file - k ≡ 0 = omega arith in
      sym v.left ∙ ap (wrong_from file k) z

  module _ (h : k < count) {r : Bool} (er : r ≡ right_block file k) where
    one_less : blocks_in file - k ≡ suc (blocks_in file - (k + 1))
    one_less = omega arith

    pub search_found : r ≡ false → first_wrong file ≡ some k
    unfolding wrong_from
    search_found n =
        let w : right_block file k ≡ false = sym er ∙ n in
        let e : wrong_from file k (suc (blocks_in file - (k + 1))) ≡ some k = rw w in
        sym v.left ∙ ap (wrong_from file k) one_less ∙ e

    pub search_more : r ≡ true → Inv file (k + 1)
    unfolding wrong_from
    search_more n =
        let w : right_block file k ≡ true = sym er ∙ n in
        let e : wrong_from file (k + 1) (blocks_in file - (k + 1)) ≡ wrong_from file k (suc (blocks_in file - (k + 1))) = rw w in
        record { left = e ∙ ap (wrong_from file k) (sym one_less) ∙ v.left }

-- The loop that takes the least of the places that items have.
use Prim.Native.Nat.{ℕ, ◌≤◌, ◌<◌, min}
use native.Mathlib.Omega.{arith}
use mathlib.Core.Path.{◌≡◌}
use mathlib.Core.Bool.{Bool, true}
use mathlib.Core.List.{List}
use Rattle.forest.specs.Forest.{none, tree}
use Rattle.forest.proofs.Bools.{and_left, and_right}
use Rattle.words.specs.Trees.{Lexeme}
use Rattle.lexemes.specs.Lists.{Items}
use Rattle.lexemes.specs.code.Table.{next_at}
use Rattle.lexemes.proofs.Along.{Along, along_end, along_here, along_start, along_turn, item-of}
use Rattle.shapes.specs.Shapes.{all}
use Rattle.written_sorts.specs.code.Places.{AllBetween, ShapedAt}
use Rattle.written_sorts.specs.Written.{least_in}

module _ {shape : Lexeme → Items → Bool} {lexemes : List ℕ} {first close : ℕ} where
  -- All of the items that are left have the shape, and the least place of all is the lesser of one that is found and the least of theirs.
  pub record LeastLeft (nowhere : ℕ) (place_of : Lexeme → Items → ℕ) (place : ℕ) (p : AllBetween shape lexemes first close) (left : Items) : Type 0 where
    pub shaped : all shape left ≡ true
    pub within : place ≤ nowhere
    pub least : min place (least_in nowhere place_of left) ≡ least_in nowhere place_of p.between.items

-- Of the items of a shape from one word to another the loop has come to word `at`, and the place is the least of those passed.
abbrev pub Seeking : (shape : Lexeme → Items → Bool) → (place_of : Lexeme → Items → ℕ) → (lexemes : List ℕ) → (first close nowhere place at : ℕ) → Type 0
Seeking shape place_of lexemes first close nowhere place at =
    Along (λ (p : AllBetween shape lexemes first close). p.between) at (LeastLeft nowhere place_of place)

-- no place is past nowhere
least_below : (nowhere : ℕ) (place_of : Lexeme → Items → ℕ) (F : Items) → least_in nowhere place_of F ≤ nowhere
unfolding least_in
least_below nowhere place_of none = omega arith
least_below nowhere place_of (tree l ops more) = omega (arith, least_below nowhere place_of more)

module _ {shape : Lexeme → Items → Bool} {place_of : Lexeme → Items → ℕ} {lexemes : List ℕ} {first close nowhere : ℕ} where
  pub seek_start : AllBetween shape lexemes first close → Seeking shape place_of lexemes first close nowhere nowhere first
  seek_start given = along_start (λ p. p.between) given (λ p. record {
    shaped = p.shaped;
    within = omega arith;
    least = omega (arith, least_below nowhere place_of p.between.items);
  })

  module _ {place at : ℕ} (s : Seeking shape place_of lexemes first close nowhere place at) where
    pub seek_end : close ≤ at → (p : AllBetween shape lexemes first close) → place ≡ least_in nowhere place_of p.between.items
    unfolding least_in
    seek_end h p = let x = along_end s h p in omega (arith, x.least, x.within)

    module _ (h : at < close) where
      -- an item of the shape stands before the end
      pub seek_item : ShapedAt shape lexemes at
      unfolding all
      seek_item =
          let x = item-of s h s.given in
          record { here = x; shaped = and_left (shape x.label x.operands) (all shape x.more) (along_here s h s.given).shaped }

      -- a turn
      pub seek_turn : {found : ℕ} → ((p : ShapedAt shape lexemes at) → found ≡ place_of p.here.label p.here.operands)
          → {lesser : ℕ} → lesser ≡ min place found → {next : ℕ} → next ≡ next_at lexemes at
          → Seeking shape place_of lexemes first close nowhere lesser next
      unfolding all least_in
      seek_turn known e n = along_turn s h n (λ p x source here.
          let one = shape x.label x.operands in
          let others = all shape x.more in
          let it : ShapedAt shape lexemes at = record { here = x; shaped = and_left one others here.shaped } in
          record { shaped = and_right one others here.shaped; within = omega (arith, here.within); least = omega (arith, known it, here.least) })

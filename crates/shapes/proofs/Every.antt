-- A walk along items that are all to be of a shape.
use Prim.Native.Nat.{ℕ, ◌-◌, ◌≤◌, ◌<◌}
use mathlib.Core.Path.{◌≡◌, refl}
use mathlib.Core.Bool.{Bool, true, false, not}
use mathlib.Core.List.{List}
use borrow.Author.Tests.{not-false, not-true}
use Rattle.words.specs.Trees.{Lexeme}
use Rattle.lexemes.specs.Lists.{Items}
use Rattle.lexemes.specs.code.Table.{next_at}
use Rattle.lexemes.specs.code.Standing.{Between, ItemAt}
use Rattle.lexemes.proofs.Along.{AlongAny, along_end, along_here, along_less, along_start, along_turn, item-of}
use Rattle.shapes.specs.Shapes.{all}

-- all of the items are of a shape just when those that are left are
abbrev pub Still : {lexemes : List ℕ} {first close : ℕ} → (shape : Lexeme → Items → Bool) → Between lexemes first close → (left : Items) → Type 0
Still shape b left = all shape left ≡ all shape b.items

module _ (shape : Lexeme → Items → Bool) {lexemes : List ℕ} {first close : ℕ} where
  pub every_start : Between lexemes first close → AlongAny lexemes first close first (Still shape)
  every_start given = along_start (λ b. b) given (λ b. refl)

  module _ {at : ℕ} (a : AlongAny lexemes first close at (Still shape)) where
    pub every_end : close ≤ at → (b : Between lexemes first close) → true ≡ all shape b.items
    unfolding all
    every_end h b = along_end a h b

    module _ (h : at < close) where
      pub every_item : ItemAt lexemes at
      every_item = item-of a h a.given

      pub every_less : {next : ℕ} → next ≡ next_at lexemes at → close - next < close - at
      every_less e = along_less a h e

      module _ {r : Bool} (known : (x : ItemAt lexemes at) → r ≡ shape x.label x.operands) where
        pub every_turn : not r ≡ false → {next : ℕ} → next ≡ next_at lexemes at → AlongAny lexemes first close next (Still shape)
        unfolding all
        every_turn t e = along_turn a h e (λ b x source still. rw (← known x, not-false r t) at still)

        pub every_miss : not r ≡ true → (b : Between lexemes first close) → false ≡ all shape b.items
        unfolding all
        every_miss t b = rw (← known (item-of a h b), not-true r t) at (along_here a h b)

-- A walk along items, in any of which something may not be carried.
use Prim.Native.Nat.{ℕ, ◌-◌, ◌≤◌, ◌<◌}
use mathlib.Core.Path.{◌≡◌, refl}
use mathlib.Core.Bool.{Bool, true, false}
use mathlib.Core.List.{List}
use Rattle.words.specs.Trees.{Lexeme}
use Rattle.lexemes.specs.Lists.{Items}
use Rattle.lexemes.specs.code.Table.{next_at}
use Rattle.lexemes.specs.code.Standing.{Between, ItemAt}
use Rattle.lexemes.proofs.Along.{AlongAny, along_end, along_here, along_less, along_start, along_turn, item-of}
use Rattle.shapes.specs.Carried.{any_of}

-- something is not carried in all of the items just when it is in those that are left
abbrev pub Left : {lexemes : List ℕ} {first close : ℕ} → (test : Lexeme → Items → Bool) → Between lexemes first close → (left : Items) → Type 0
Left test b left = any_of test left ≡ any_of test b.items

module _ (test : Lexeme → Items → Bool) {lexemes : List ℕ} {first close : ℕ} where
  pub any_start : Between lexemes first close → AlongAny lexemes first close first (Left test)
  any_start given = along_start (λ b. b) given (λ b. refl)

  module _ {at : ℕ} (a : AlongAny lexemes first close at (Left test)) where
    pub any_end : close ≤ at → (b : Between lexemes first close) → false ≡ any_of test b.items
    unfolding any_of
    any_end h b = along_end a h b

    module _ (h : at < close) where
      pub any-item : ItemAt lexemes at
      any-item = item-of a h a.given

      pub any_less : {next : ℕ} → next ≡ next_at lexemes at → close - next < close - at
      any_less e = along_less a h e

      module _ {r : Bool} (known : (x : ItemAt lexemes at) → r ≡ test x.label x.operands) where
        pub any_turn : r ≡ false → {next : ℕ} → next ≡ next_at lexemes at → AlongAny lexemes first close next (Left test)
        unfolding any_of
        any_turn t e = along_turn a h e (λ b x source left. rw (← known x, t) at left)

        pub any_found : r ≡ true → (b : Between lexemes first close) → true ≡ any_of test b.items
        unfolding any_of
        any_found t b = rw (← known (item-of a h b), t) at (along_here a h b)

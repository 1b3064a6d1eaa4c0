-- The walk into all lists of a command.
use Prim.Native.Nat.{ℕ, ◌+◌, ◌≤◌, ◌<◌}
use mathlib.Core.Path.{◌≡◌, sym, ◌∙◌}
use mathlib.Core.Bool.{Bool, true, false, ◌||◌, or_assoc, or-false}
use mathlib.Core.List.{List, [], ◌∷◌}
use Rattle.lexemes.specs.Lists.{Items}
use Rattle.lexemes.specs.code.Table.{code_at, open_code}
use Rattle.lexemes.specs.code.Standing.{Between, ListAt}
use Rattle.lexemes.proofs.Pending.{DownAny, at_a_list, down_end, down_enter, down_start, down_word}
use Rattle.shapes.specs.Carried.{any_uncarried, uncarried_start}

-- whether a list that is not carried is among the items that are pending further out, or within one
abbrev pub outer_uncarried : List Items → Bool
outer_uncarried [] = false
outer_uncarried (F ∷ more) = any_uncarried F || outer_uncarried more

-- such a list is among all of the items just when it is among those that are pending
abbrev pub Uncarried : {lexemes : List ℕ} {first end : ℕ} → Between lexemes first end → (items : Items) → (outer : List Items) → Type 0
Uncarried b items outer = any_uncarried items || outer_uncarried outer ≡ any_uncarried b.items

module _ {lexemes : List ℕ} {first end : ℕ} where
  pub uncarried_begin : Between lexemes first end → DownAny lexemes first end first Uncarried
  uncarried_begin given = down_start (λ b. b) given (λ b. or-false (any_uncarried b.items))

  module _ {at : ℕ} (d : DownAny lexemes first end at Uncarried) where
    pub uncarried_end : end ≤ at → (b : Between lexemes first end) → false ≡ any_uncarried b.items
    unfolding any_uncarried
    uncarried_end h b = down_end d h b

    module _ (h : at < end) {code : ℕ} (ec : code ≡ code_at lexemes at) where
      pub uncarried_word : (code ≡ open_code → ⊥) → DownAny lexemes first end (at + 1) Uncarried
      unfolding any_uncarried
      uncarried_word other = down_word d h ec other (λ b x source no_list outer known. rw no_list at known) (λ b next outer known. known)

      module _ (opens : code ≡ open_code) {r : Bool} (starts : (x : ListAt lexemes at) → r ≡ uncarried_start x.operands) where
        pub uncarried_enter : r ≡ false → DownAny lexemes first end (at + 1) Uncarried
        unfolding any_uncarried
        uncarried_enter t =
            down_enter d h ec opens
            (λ b x source outer known.
            sym (or_assoc (any_uncarried x.operands) (any_uncarried x.more) (outer_uncarried outer)) ∙ (rw (sym (starts x) ∙ t) at known))

        pub uncarried_found : r ≡ true → (b : Between lexemes first end) → true ≡ any_uncarried b.items
        unfolding any_uncarried
        uncarried_found t b =
            let v = at_a_list d h ec opens b in
            rw (sym (starts v.list_here) ∙ t) at v.known

-- The walk into the lists of terms.
use Prim.Native.Nat.{ℕ, ◌+◌, ◌-◌, ◌≤◌, ◌<◌}
use native.Mathlib.Omega.{arith}
use mathlib.Core.Path.{◌≡◌, refl, sym, ap, ◌∙◌}
use mathlib.Core.Bool.{Bool, true, false, ◌&&◌, ◌||◌, cond, not, and_assoc, and-true}
use mathlib.Core.List.{List, [], ◌∷◌}
use lib.Dec.{leb, ltb}
use borrow.Author.Tests.{leb-true}
use Rattle.forest.specs.Forest.{count, none}
use Rattle.forest.specs.Lists.{same_bytes}
use Rattle.forest.proofs.Bools.{and_left, and_right, apart}
use Rattle.lexemes.specs.Lists.{Items, indexed, inside, is, is_constant, is_keyword, is_list, item}
use Rattle.lexemes.specs.code.Codes.{first_code, weights_code}
use Rattle.lexemes.specs.code.Table.{code_at, next_at, open_code}
use Rattle.lexemes.specs.code.Standing.{Between, ItemAt, ListAt}
use Rattle.lexemes.proofs.ByCode.{keyword-code}
use Rattle.lexemes.proofs.Listed.{as_item, at_item}
use Rattle.lexemes.proofs.Pending.{DownAny, at_a_list, at_a_word, behind_less, down_behind, down_end, down_skip, down_start, down_word}
use Rattle.shapes.specs.Shapes.{application_shape, head_shape, indexed_shape, term_shapes}

-- whether a list is a term
abbrev list_term : Items → Bool
list_term ops = cond (is "_" (item 0 ops)) (indexed_shape ops) (application_shape ops && term_shapes true ops)

-- it is a list begun by `_`, or a head and operands, or no term
module _ (F : Items) where
  indexed_term : indexed_shape F ≡ true → list_term F ≡ true
  indexed_term t = go (is "_" (item 0 F)) (indexed_shape F) first t
    where
      either : (a b : Bool) → (a ≡ true → is "_" (item 0 F) ≡ true) → (b ≡ true → is "_" (item 0 F) ≡ true) → a || b ≡ true → is "_" (item 0 F) ≡ true
      either true b f g e = f refl
      either false b f g e = g e

      first : indexed_shape F ≡ true → is "_" (item 0 F) ≡ true
      first =
          either (indexed "extract" 2 F) (is_constant F) (λ i. and_left _ _ (and_left _ _ (and_left _ _ i)))
          (λ i. and_left _ _ (and_left _ _ (and_left _ _ i)))

      go : (u i : Bool) → (i ≡ true → u ≡ true) → i ≡ true → cond u i (application_shape F && term_shapes true F) ≡ true
      go u i first t = rw (first t, t)

  headed_term : not (is "_" (item 0 F)) && application_shape F ≡ true → list_term F ≡ term_shapes true F
  headed_term = go (is "_" (item 0 F)) (application_shape F)
    where
      go : (u a : Bool) → not u && a ≡ true → cond u (indexed_shape F) (a && term_shapes true F) ≡ term_shapes true F
      go true a t = apart t
      go false a t = rw t

  no_term : indexed_shape F ≡ false → not (is "_" (item 0 F)) && application_shape F ≡ false → list_term F ≡ false
  no_term e = go (is "_" (item 0 F)) (application_shape F)
    where
      go : (u a : Bool) → not u && a ≡ false → cond u (indexed_shape F) (a && term_shapes true F) ≡ false
      go true a t = e
      go false a t = rw t

-- no items are no term
nothing_headed : list_term none ≡ false
unfolding count inside item same_bytes
nothing_headed = refl

-- whether all of the items that are pending further out are terms
abbrev pub outer_terms : List Items → Bool
outer_terms [] = true
outer_terms (F ∷ more) = term_shapes false F && outer_terms more

-- all of the items are terms just when those that are pending are
abbrev pub Terms : {lexemes : List ℕ} {first end : ℕ} → Between lexemes first end → (items : Items) → (outer : List Items) → Type 0
Terms b items outer = term_shapes false items && outer_terms outer ≡ term_shapes false b.items

module _ {lexemes : List ℕ} {first end : ℕ} where
  pub terms_start : Between lexemes first end → DownAny lexemes first end first Terms
  terms_start given = down_start (λ b. b) given (λ b. and-true (term_shapes false b.items))

  module _ {at : ℕ} (d : DownAny lexemes first end at Terms) where
    pub terms_end : end ≤ at → (b : Between lexemes first end) → true ≡ term_shapes false b.items
    unfolding term_shapes
    terms_end h b = down_end d h b

    module _ (h : at < end) {code : ℕ} (ec : code ≡ code_at lexemes at) where
      -- a keyword is no term
      pub terms_keyword : leb weights_code code && ltb code first_code ≡ true → (b : Between lexemes first end) → false ≡ term_shapes false b.items
      unfolding term_shapes
      terms_keyword t b =
          let low = leb-true weights_code code (and_left (leb weights_code code) (ltb code first_code) t) in
          let v = at_a_word d h ec (λ e. omega arith) (λ e. omega arith) b in
          let x = v.word_here in
          let key : is_keyword x.label ≡ true =
          keyword-code x.label ∙ ap (λ (c : ℕ). leb weights_code c && ltb c first_code) (sym (at_item x).code ∙ sym ec) ∙ t in
          rw (v.no_list, key, nothing_headed) at v.known

      pub terms_word : leb weights_code code && ltb code first_code ≡ false → (code ≡ open_code → ⊥) → DownAny lexemes first end (at + 1) Terms
      unfolding term_shapes
      terms_word plain other =
          down_word d h ec other (λ b x source no_list outer known. rw (no_list, no_keyword x) at known) (λ b next outer known. known)
        where
          no_keyword : (x : ItemAt lexemes at) → is_keyword x.label ≡ false
          no_keyword x = keyword-code x.label ∙ ap (λ (c : ℕ). leb weights_code c && ltb c first_code) (sym (at_item x).code ∙ sym ec) ∙ plain

      module _ (opens : code ≡ open_code) {r : Bool} (by : (x : ItemAt lexemes at) → r ≡ (is_list x.label && indexed_shape x.operands)) where
        pub terms_skip : r ≡ true → {next : ℕ} → next ≡ next_at lexemes at → DownAny lexemes first end next Terms
        unfolding term_shapes
        terms_skip t e =
            down_skip d h ec opens e (λ b x source outer known. rw (indexed_term x.operands (sym (by (as_item x)) ∙ t)) at known)

        module _ (other : r ≡ false) {q : Bool}
            (application : (x : ListAt lexemes at) → q ≡ (not (is "_" (item 0 x.operands)) && application_shape x.operands)) where
          module _ (t : q ≡ true) {next : ℕ} (e : next ≡ next_at lexemes (at + 1)) where
            headed : (x : ListAt lexemes at) → 0 < count x.operands
            headed x =
                let F = x.operands in
                let a = and_right (not (is "_" (item 0 F))) (application_shape F) (sym (application x) ∙ t) in
                omega (arith, leb-true 2 (count F) (and_right (head_shape (item 0 F) (inside 0 F)) (leb 2 (count F)) a))

            pub terms_less : end - next < end - at
            terms_less = behind_less d h ec opens headed e

            pub terms_behind : DownAny lexemes first end next Terms
            unfolding term_shapes
            terms_behind =
                down_behind d h ec opens headed e
                (λ b x source l ops rest first_is outer known.
                let inner : list_term x.operands ≡ term_shapes false rest =
                headed_term x.operands (sym (application x) ∙ t) ∙ ap (term_shapes true) first_is in
                sym (and_assoc (term_shapes false rest) (term_shapes false x.more) (outer_terms outer)) ∙ (rw inner at known))

          pub terms_miss : q ≡ false → (b : Between lexemes first end) → false ≡ term_shapes false b.items
          unfolding term_shapes
          terms_miss t b =
              let v = at_a_list d h ec opens b in
              let x = v.list_here in
              rw (no_term x.operands (sym (by (as_item x)) ∙ other) (sym (application x) ∙ t)) at v.known

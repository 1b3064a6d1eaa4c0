-- The command `set-feature`, by the codes of its words.
use Prim.Native.Nat.{ℕ, ◌+◌}
use native.Mathlib.Omega.{arith}
use mathlib.Core.Path.{◌≡◌, refl, sym, ◌∙◌}
use mathlib.Core.Bool.{Bool, true, false, ◌&&◌, ◌||◌, not}
use mathlib.Core.List.{List, [], ◌∷◌}
use lib.Dec.{eqb, leb, ltb}
use borrow.Author.Tests.{leb-true, ne_eqb}
use Rattle.forest.specs.Forest.{count}
use Rattle.forest.proofs.Bools.{and_left, and_right}
use Rattle.lexemes.specs.Lists.{Items, after, is, is_among, is_key, is_keyword, item}
use Rattle.lexemes.specs.code.Codes.{false_code, first_code, set_feature_code, true_code, weights_code}
use Rattle.lexemes.specs.code.Table.{code_at}
use Rattle.lexemes.specs.code.Standing.{ListAt}
use Rattle.lexemes.proofs.ByCode.{code_for, front_keyword, front_weights, front_word, front_code, keyword-code, words_code}
use Rattle.lexemes.proofs.Listed.{at_item, first_code_lem}
use Rattle.shapes.specs.Carried.{other_feature}
use Rattle.shapes.specs.Shapes.{set_feature_shape}
use Rattle.shapes.specs.code.Lists.{ItemOf}
use Rattle.shapes.proofs.CarriedTests.{second_code, third_code}
use Rattle.shapes.proofs.ListItems.{so_many, the_item}

module _ {lexemes : List ℕ} {at : ℕ} where
  -- its shape
  pub feature_made : {n : ℕ} → ((x : ListAt lexemes at) → n ≡ count x.operands) → n ≡ 3
      → {i : ℕ} → (one : (x : ListAt lexemes at) → ItemOf x 1 i) → {feature : ℕ} → feature ≡ code_at lexemes i
      → {j : ℕ} → (two : (x : ListAt lexemes at) → ItemOf x 2 j) → {value : ℕ} → value ≡ code_at lexemes j
      → (x : ListAt lexemes at)
      → leb weights_code feature && ltb feature first_code && (eqb value true_code || eqb value false_code) ≡ set_feature_shape x.operands
  unfolding code_for
  feature_made counts e one ef two ev x =
      let F = x.operands in
      rw (
        so_many counts e x,
        ef,
        (at_item (the_item one x)).code,
        ev,
        (at_item (the_item two x)).code,
        keyword-code (item 1 F),
        words_code ("true" ∷ "false" ∷ []) refl (item 2 F),
      )

  module _ {first : ℕ} (ef : first ≡ code_at lexemes (at + 1)) where
    pub no_feature_test : (first ≡ set_feature_code → ⊥) → (x : ListAt lexemes at) → false ≡ other_feature x.operands
    unfolding after code_for
    no_feature_test other x =
        rw (front_word "set-feature" refl 0 x.operands, ← first_code_lem x, ← ef, ne_eqb first set_feature_code other)

    -- another feature, or another value
    pub feature_test : first ≡ set_feature_code → {feature : ℕ} → feature ≡ code_at lexemes (at + 2) → {value : ℕ} → value ≡ code_at lexemes (at + 3)
        → {r : Bool} → ((x : ListAt lexemes at) → r ≡ set_feature_shape x.operands)
        → (x : ListAt lexemes at) → r && not (eqb feature weights_code && eqb value true_code) ≡ other_feature x.operands
    unfolding after code_for
    feature_test e {feature} e2 {value} e3 known x =
        rw (known x, front_word "set-feature" refl 0 F, f) (go (set_feature_shape F) refl)
      where
        F : Items
        F = x.operands

        f : front_code F ≡ set_feature_code
        f = sym (first_code_lem x) ∙ sym ef ∙ e

        go : (s : Bool) → set_feature_shape F ≡ s
            → s && not (eqb feature weights_code && eqb value true_code) ≡ s && not (is_key ":weights" (item 1 F) && is "true" (item 2 F))
        go false t = refl
        go true t =
            let key : is_keyword (item 1 F) ≡ true =
            and_right (eqb (count F) 3) (is_keyword (item 1 F)) (and_left (eqb (count F) 3 && is_keyword (item 1 F)) (is_among ("true" ∷ "false" ∷ []) (item 2 F)) t) in
            let high = leb-true weights_code (front_code (after 1 F)) (and_left _ _ (sym (front_keyword 1 F) ∙ key)) in
            rw (e2, second_code x (omega (arith, f)), e3, third_code x (omega (arith, f)) (omega arith), front_weights 1 F, front_word "true" refl 2 F)

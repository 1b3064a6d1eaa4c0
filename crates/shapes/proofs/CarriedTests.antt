-- The tests of a list by the codes of its words.
use Prim.Native.Nat.{ℕ, ◌+◌, ◌≤◌}
use native.Mathlib.Omega.{arith}
use mathlib.Core.Path.{◌≡◌, refl, sym, ap, ◌∙◌}
use mathlib.Core.Bool.{Bool, true, false, ◌&&◌, ◌||◌, not}
use mathlib.Core.List.{List, [], ◌∷◌}
use lib.Dec.{eqb, ltb}
use borrow.Author.Tests.{eqb-true, ne_eqb}
use Rattle.forest.specs.Forest.{count}
use Rattle.lexemes.specs.code.Codes.{bang_code, bit_vec_code, bv_code, exists_code, extract_code, forall_code, let_code, other_code, set_logic_code, synth_fun_code}
use Rattle.lexemes.specs.code.Codes.{underscore_code}
use Rattle.lexemes.specs.Lists.{after}
use Rattle.lexemes.specs.code.Table.{code_at, numeral_code}
use Rattle.lexemes.specs.code.Standing.{ListAt}
use Rattle.lexemes.proofs.ByCode.{code_for, front_constant, front_word, front_words, front_code}
use Rattle.lexemes.proofs.Standing.{front}
use Rattle.lexemes.proofs.Listed.{first_code_lem, held}
use Rattle.lexemes.proofs.Spelt.{after_two, behind_word}
use Rattle.shapes.specs.Shapes.{set_logic_shape}
use Rattle.shapes.specs.Carried.{no_grammar, other_logic, uncarried_start}

module _ {lexemes : List ℕ} {at : ℕ} where
  -- the second word of a list whose first is no bracket
  pub second_code : (x : ListAt lexemes at) → numeral_code ≤ front_code x.operands → code_at lexemes (at + 2) ≡ front_code (after 1 x.operands)
  second_code x h =
      let l = held x in
      let e : at + 1 + 1 ≡ at + 2 = omega arith in
      rw (← e) (front x.same (behind_word x.same x.operands l.stands h) l.closes)

  -- the third word of a list whose first two are no brackets
  pub third_code : (x : ListAt lexemes at) → numeral_code ≤ front_code x.operands → numeral_code ≤ front_code (after 1 x.operands)
      → code_at lexemes (at + 3) ≡ front_code (after 2 x.operands)
  third_code x h k =
      let l = held x in
      let e : at + 1 + 1 + 1 ≡ at + 3 = omega arith in
      let behind = behind_word x.same (after 1 x.operands) (behind_word x.same x.operands l.stands h) k in
      rw (← e, after_two x.operands) (front x.same behind l.closes)

  module _ {first : ℕ} (ef : first ≡ code_at lexemes (at + 1)) {second : ℕ} (es : second ≡ code_at lexemes (at + 2)) where
    pub start_test : (x : ListAt lexemes at)
        → eqb first let_code || eqb first exists_code || eqb first forall_code || eqb first bang_code
        || eqb first underscore_code && not (eqb second bit_vec_code || eqb second extract_code || ltb other_code second) ≡ uncarried_start x.operands
    unfolding after code_for
    start_test x =
        rw (
          ef,
          first_code_lem x,
          front_words ("let" ∷ "exists" ∷ "forall" ∷ "!" ∷ []) refl 0 x.operands,
          front_word "_" refl 0 x.operands,
          front_words ("BitVec" ∷ "extract" ∷ []) refl 1 x.operands,
          front_constant 1 x.operands,
        )
        (ap (λ (t : Bool). eqb f let_code || eqb f exists_code || eqb f forall_code || eqb f bang_code || t) (go (eqb f underscore_code) refl))
      where
        f : ℕ
        f = front_code x.operands

        s : ℕ
        s = front_code (after 1 x.operands)

        go : (b : Bool) → eqb f underscore_code ≡ b
            → b && not (eqb second bit_vec_code || eqb second extract_code || ltb other_code second)
            ≡ b && not (eqb s bit_vec_code || eqb s extract_code || ltb other_code s)
        go true e = rw (es, second_code x (omega (arith, eqb-true f underscore_code e)))
        go false e = refl

    -- `set-logic` with another logic
    pub logic_test : first ≡ set_logic_code → {r : Bool} → ((x : ListAt lexemes at) → r ≡ set_logic_shape x.operands)
        → (x : ListAt lexemes at) → r && not (eqb second bv_code) ≡ other_logic x.operands
    unfolding after code_for
    logic_test e8 known x =
        let f : front_code x.operands ≡ set_logic_code = sym (first_code_lem x) ∙ sym ef ∙ e8 in
        rw (known x, es, second_code x (omega arith), front_word "set-logic" refl 0 x.operands, front_word "BV" refl 1 x.operands, f)

  module _ {first : ℕ} (ef : first ≡ code_at lexemes (at + 1)) where
    pub no_logic_test : (first ≡ set_logic_code → ⊥) → (x : ListAt lexemes at) → false ≡ other_logic x.operands
    unfolding after code_for
    no_logic_test other x =
        rw (front_word "set-logic" refl 0 x.operands, ← first_code_lem x, ← ef, ne_eqb first set_logic_code other)

    pub no_grammar_test : (first ≡ synth_fun_code → ⊥) → (x : ListAt lexemes at) → false ≡ no_grammar x.operands
    unfolding after code_for
    no_grammar_test other x =
        rw (front_word "synth-fun" refl 0 x.operands, ← first_code_lem x, ← ef, ne_eqb first synth_fun_code other)

    pub grammar_test : {n : ℕ} → ((x : ListAt lexemes at) → n ≡ count x.operands)
        → (x : ListAt lexemes at) → eqb first synth_fun_code && eqb n 4 ≡ no_grammar x.operands
    unfolding after code_for
    grammar_test counted x = rw (front_word "synth-fun" refl 0 x.operands, ← first_code_lem x, ← ef, counted x)

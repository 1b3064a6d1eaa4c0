-- What is not carried, by the code of a command's word.
use Prim.Native.Nat.{ℕ, ◌+◌, ◌-◌, ◌≤◌, ◌<◌}
use native.Mathlib.Omega.{arith}
use mathlib.Core.Path.{◌≡◌, refl, sym, ◌∙◌}
use mathlib.Core.Bool.{Bool, true, false, ◌&&◌, ◌||◌, and-false, and-true}
use mathlib.Core.List.{List}
use lib.Dec.{leb, ltb}
use borrow.Author.Tests.{le-leb, le-ltb, leb-false, leb-true, lt-leb, lt-ltb, ltb-false, ltb-true}
use Rattle.lexemes.specs.code.Codes.{other_command_code, other_command_count, set_feature_code, set_logic_code, synth_fun_code, true_code}
use Rattle.lexemes.specs.Reserved.{carried_commands, other_commands}
use Rattle.lexemes.specs.code.Table.{code_at}
use Rattle.lexemes.specs.code.Standing.{ListAt}
use Rattle.lexemes.proofs.ByCode.{code_for, front_range, front_code}
use Rattle.lexemes.proofs.Listed.{first_code_lem}
use Rattle.forest.proofs.Bools.{or_left, or_other, or_right}
use Rattle.shapes.proofs.CarriedTests.{no_grammar_test, no_logic_test}
use Rattle.shapes.proofs.FeatureTests.{no_feature_test}
use Rattle.shapes.specs.Carried.{command_uncarried, no_grammar, is_not_carried, other_feature, other_logic}

-- a code that is no command's
record Outside (code : ℕ) : Type 0 where
  not_other : leb other_command_code code && ltb code true_code ≡ false
  not_carried : leb set_logic_code code && ltb code other_command_code ≡ false
  not_logic : code ≡ set_logic_code → ⊥
  not_feature : code ≡ set_feature_code → ⊥
  not_synth : code ≡ synth_fun_code → ⊥

outside : (code : ℕ) → ltb code set_logic_code || leb true_code code ≡ true → Outside code
outside code t = go (ltb code set_logic_code) refl
  where
    go : (b : Bool) → ltb code set_logic_code ≡ b → Outside code
    go true e =
        let h = ltb-true code set_logic_code e in
        record {
          not_other = rw (lt-leb other_command_code code (omega arith));
          not_carried = rw (lt-leb set_logic_code code (omega arith));
          not_logic = λ q. omega arith;
          not_feature = λ q. omega arith;
          not_synth = λ q. omega arith;
        }
    go false e =
        let h = leb-true true_code code (or_other (ltb code set_logic_code) (leb true_code code) e t) in
        record {
          not_other = rw (le-ltb code true_code (omega arith), and-false (leb other_command_code code));
          not_carried = rw (le-ltb code other_command_code (omega arith), and-false (leb set_logic_code code));
          not_logic = λ q. omega arith;
          not_feature = λ q. omega arith;
          not_synth = λ q. omega arith;
        }

module _ {lexemes : List ℕ} {at : ℕ} {command : ℕ} (ec : command ≡ code_at lexemes (at + 1)) (weights : Bool) where
  front_is : (x : ListAt lexemes at) → front_code x.operands ≡ command
  front_is x = sym (first_code_lem x) ∙ sym ec

  -- what is not carried, by the command's code
  parts : (x : ListAt lexemes at)
      → is_not_carried weights x.operands
      ≡ leb other_command_code command && ltb command true_code || other_feature x.operands || other_logic x.operands || no_grammar x.operands
      || leb set_logic_code command && ltb command other_command_code && command_uncarried weights x.operands
  unfolding code_for is_not_carried
  parts x =
      let other = front_range other_commands refl other_command_code other_command_count refl x.operands in
      rw (other, front_range carried_commands refl set_logic_code (other_command_code - set_logic_code) refl x.operands, front_is x)

  pub other_list : ltb command set_logic_code || leb true_code command ≡ true → (x : ListAt lexemes at) → false ≡ is_not_carried weights x.operands
  other_list t x =
      let far = outside command t in
      sym (parts x ∙ rw (far.not_other, far.not_carried, ← no_feature_test ec far.not_feature x, ← no_logic_test ec far.not_logic x, ← no_grammar_test ec far.not_synth x))

  module _ (within : ltb command set_logic_code || leb true_code command ≡ false) {p o g : Bool}
      (feature : (x : ListAt lexemes at) → p ≡ other_feature x.operands) (logic : (x : ListAt lexemes at) → o ≡ other_logic x.operands)
      (grammar : (x : ListAt lexemes at) → g ≡ no_grammar x.operands) where
    low : set_logic_code ≤ command
    low = ltb-false command set_logic_code (or_left (ltb command set_logic_code) (leb true_code command) within)

    high : command < true_code
    high = leb-false true_code command (or_right (ltb command set_logic_code) (leb true_code command) within)

    tested : (x : ListAt lexemes at)
        → is_not_carried weights x.operands ≡ ltb set_feature_code command || p || o || g || ltb command other_command_code && command_uncarried weights x.operands
    tested x = parts x ∙ rw (← feature x, ← logic x, ← grammar x, le-leb set_logic_code command low, lt-ltb command true_code high, and-true (leb other_command_code command))

    pub uncarried_command : ltb set_feature_code command || p || o || g ≡ true → (x : ListAt lexemes at) → true ≡ is_not_carried weights x.operands
    uncarried_command t x = sym (tested x ∙ rw t)

    pub carried_command : ltb set_feature_code command || p || o || g ≡ false → {r : Bool}
        → ((x : ListAt lexemes at) → r ≡ command_uncarried weights x.operands) → (x : ListAt lexemes at) → r ≡ is_not_carried weights x.operands
    carried_command t found x =
        let past = ltb set_feature_code command in
        let up : command ≤ set_feature_code = ltb-false set_feature_code command (or_left past p (or_left (past || p) o (or_left (past || p || o) g t))) in
        sym (tested x ∙ rw (t, lt-ltb command other_command_code (omega arith), ← found x))

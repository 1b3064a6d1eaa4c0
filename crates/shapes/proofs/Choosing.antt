-- Commands by the code of their word.
use Prim.Native.Nat.{ℕ, ◌+◌}
use mathlib.Core.Path.{◌≡◌, refl, sym, ap, ◌∙◌}
use mathlib.Core.Bool.{Bool, false, cond}
use mathlib.Core.List.{List}
use mathlib.Core.Logic.{◌⊎◌, inl, inr}
use lib.Dec.{eqb}
use borrow.Author.Tests.{ne_eqb}
use Rattle.lexemes.specs.code.Codes.{assume_code, check_synth_code, constraint_code, declare_var_code, define_fun_code, set_feature_code, set_logic_code, synth_fun_code}
use Rattle.lexemes.specs.Lists.{Items, after}
use Rattle.lexemes.specs.code.Table.{code_at}
use Rattle.lexemes.specs.code.Standing.{ListAt}
use Rattle.lexemes.proofs.ByCode.{code_for, front_word, front_code}
use Rattle.lexemes.proofs.Listed.{first_code_lem}
use Rattle.shapes.specs.Shapes.{check_synth_shape, command_shape, constraint_shape, declare_var_shape, define_fun_shape, set_feature_shape, set_logic_shape, synth_fun_shape}

-- the shape of the command that a code names
abbrev pub shape_by : (code : ℕ) → Items → Bool
shape_by code F =
    cond (eqb code set_logic_code) (set_logic_shape F)
    (cond (eqb code declare_var_code) (declare_var_shape F)
    (cond (eqb code define_fun_code) (define_fun_shape F)
    (cond (eqb code synth_fun_code) (synth_fun_shape F)
    (cond (eqb code constraint_code) (constraint_shape F)
    (cond (eqb code check_synth_code) (check_synth_shape F)
    (cond (eqb code assume_code) (constraint_shape F)
    (cond (eqb code set_feature_code) (set_feature_shape F)
    false)))))))

by_word : (F : Items) → command_shape F ≡ shape_by (front_code F) F
unfolding after code_for command_shape
by_word F =
    rw (
      front_word "set-logic" refl 0 F,
      front_word "declare-var" refl 0 F,
      front_word "define-fun" refl 0 F,
      front_word "synth-fun" refl 0 F,
      front_word "constraint" refl 0 F,
      front_word "check-synth" refl 0 F,
      front_word "assume" refl 0 F,
      front_word "set-feature" refl 0 F,
    )

module _ {lexemes : List ℕ} {at : ℕ} {command : ℕ} (ec : command ≡ code_at lexemes (at + 1)) where
  front_is : (x : ListAt lexemes at) → front_code x.operands ≡ command
  front_is x = sym (first_code_lem x) ∙ sym ec

  -- a known command, and another
  pub named_command : {code : ℕ} → command ≡ code → (x : ListAt lexemes at) → shape_by code x.operands ≡ command_shape x.operands
  named_command e x = sym (by_word x.operands ∙ ap (λ (k : ℕ). shape_by k x.operands) (front_is x ∙ e))

  -- the commands that have one shape
  pub constraint_or_assume : command ≡ constraint_code ⊎ command ≡ assume_code → (x : ListAt lexemes at) → constraint_shape x.operands ≡ command_shape x.operands
  constraint_or_assume (inl e) x = named_command e x
  constraint_or_assume (inr e) x = named_command e x

  pub no_command : (command ≡ set_logic_code → ⊥) → (command ≡ declare_var_code → ⊥) → (command ≡ define_fun_code → ⊥)
      → (command ≡ synth_fun_code → ⊥) → (command ≡ constraint_code ⊎ command ≡ assume_code → ⊥) → (command ≡ check_synth_code → ⊥)
      → (command ≡ set_feature_code → ⊥) → (x : ListAt lexemes at) → false ≡ command_shape x.operands
  no_command n8 n9 n10 n11 n12 n13 n15 x =
      let e8 = ne_eqb command set_logic_code n8 in
      let e9 = ne_eqb command declare_var_code n9 in
      let e10 = ne_eqb command define_fun_code n10 in
      let e11 = ne_eqb command synth_fun_code n11 in
      let e12 = ne_eqb command constraint_code (λ e. n12 (inl e)) in
      let e13 = ne_eqb command check_synth_code n13 in
      let e14 = ne_eqb command assume_code (λ e. n12 (inr e)) in
      let e15 = ne_eqb command set_feature_code n15 in
      rw (e8, e9, e10, e11, e12, e13, e14, e15) at (named_command refl x)

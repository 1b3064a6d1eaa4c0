-- Which command it is, by the code of its word.
use Prim.Native.Nat.{ℕ}
use Prim.Native.String.{String}
use mathlib.Core.Bool.{true}
use mathlib.Core.Path.{◌≡◌, refl, sym, ap, ◌∙◌}
use lib.Dec.{eqb}
use borrow.Author.Tests.{eqb-true}
use Rattle.lexemes.proofs.Numbers.{is_known}
use Rattle.lexemes.specs.Lists.{Items, is, item}
use Rattle.lexemes.specs.code.Table.{code_of}
use Rattle.lexemes.specs.code.Codes.{assume_code, check_synth_code, constraint_code, declare_var_code, define_fun_code, set_feature_code, set_logic_code, synth_fun_code}
use Rattle.lexemes.proofs.ByCode.{code_for, word_code}

-- The tests of a command's word, by its code.
pub record Chosen (c : Items) (code : ℕ) : Type 0 where
  pub sets : is "set-logic" (item 0 c) ≡ eqb code set_logic_code
  pub declares : is "declare-var" (item 0 c) ≡ eqb code declare_var_code
  pub defines : is "define-fun" (item 0 c) ≡ eqb code define_fun_code
  pub synthesizes : is "synth-fun" (item 0 c) ≡ eqb code synth_fun_code
  pub constrains : is "constraint" (item 0 c) ≡ eqb code constraint_code
  pub ends : is "check-synth" (item 0 c) ≡ eqb code check_synth_code
  pub features : is "set-feature" (item 0 c) ≡ eqb code set_feature_code
  pub assumes : is "assume" (item 0 c) ≡ eqb code assume_code

-- A command whose word is known.
pub chosen : (word : String) → is_known word ≡ true → (c : Items) → is word (item 0 c) ≡ true → Chosen c (code_for word)
unfolding code_for
chosen word known c h = record {
  sets = told "set-logic" refl;
  declares = told "declare-var" refl;
  defines = told "define-fun" refl;
  synthesizes = told "synth-fun" refl;
  constrains = told "constraint" refl;
  ends = told "check-synth" refl;
  features = told "set-feature" refl;
  assumes = told "assume" refl;
}
  where
    told : (other : String) → is_known other ≡ true → is other (item 0 c) ≡ eqb (code_for word) (code_for other)
    told other k =
        let same : code_of (item 0 c) ≡ code_for word = eqb-true _ _ (sym (word_code word known (item 0 c)) ∙ h) in
        word_code other k (item 0 c) ∙ ap (λ (n : ℕ). eqb n (code_for other)) same

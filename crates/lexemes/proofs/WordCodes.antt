-- The codes of the words that the reader tells apart are those of their numbers.
use mathlib.Core.Path.{◌≡◌, refl}
use mathlib.Core.List.{[], ◌∷◌, map}
use lib.ListN.{length}
use Rattle.operators.specs.Operators.{operators}
use Rattle.lexemes.specs.code.Reserved.{first_words, known_words}
use Rattle.lexemes.specs.code.Codes.{assume_code, bang_code, bit_vec_code, bool_code, bv_code, check_synth_code, constant_code, constraint_code}
use Rattle.lexemes.specs.code.Codes.{declare_var_code, define_fun_code, exists_code, extract_code, fail_code, false_code, first_operator_code, forall_code}
use Rattle.lexemes.specs.code.Codes.{infeasible_code, let_code, other_command_code, set_feature_code, set_logic_code, synth_fun_code, true_code}
use Rattle.lexemes.specs.code.Codes.{underscore_code, variable_code, known_count, words_before}
use Rattle.lexemes.proofs.ByCode.{code_for}

-- each code is that of its word
pub codes_are : map code_for
    ("BV" ∷ "fail" ∷ "infeasible" ∷ "set-logic" ∷ "declare-var" ∷ "define-fun" ∷ "synth-fun" ∷ "constraint" ∷ "check-synth" ∷ "assume" ∷ "set-feature" ∷ "chc-constraint"
    ∷ "true" ∷ "false" ∷ "Bool" ∷ "BitVec" ∷ "_" ∷ "!" ∷ "let" ∷ "exists" ∷ "forall" ∷ "Constant" ∷ "Variable" ∷ "not" ∷ "extract" ∷ [])
    ≡ bv_code ∷ fail_code ∷ infeasible_code ∷ set_logic_code ∷ declare_var_code ∷ define_fun_code ∷ synth_fun_code ∷ constraint_code ∷ check_synth_code ∷ assume_code ∷ set_feature_code
    ∷ other_command_code ∷ true_code ∷ false_code ∷ bool_code ∷ bit_vec_code ∷ underscore_code ∷ bang_code ∷ let_code ∷ exists_code ∷ forall_code ∷ constant_code ∷ variable_code
    ∷ first_operator_code ∷ extract_code ∷ []
unfolding code_for
codes_are = refl

-- the words before the operators are as many as their codes
pub before_counted : length first_words ≡ words_before
before_counted = refl

-- and all of them
pub known_counted : length known_words ≡ known_count
unfolding known_words operators
known_counted = refl

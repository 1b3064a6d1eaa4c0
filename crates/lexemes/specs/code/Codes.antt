-- The codes of the words that the reader tells apart, each by the word that it stands for (`proofs/WordCodes: codes_are`).
use Rattle.std.specs.Prelude.{ℕ, ◌+◌, ◌-◌}
use Rattle.operators.specs.Operators.{operator_count}
use Rattle.operators.specs.code.Operators.{extract_number}

-- `:weights`
abbrev pub weights_code : ℕ
weights_code = 5

-- `:weight`
abbrev pub weight_code : ℕ
weight_code = weights_code + 1

-- Any other keyword.
abbrev pub other_keyword_code : ℕ
other_keyword_code = weight_code + 1

-- The code of the first of the symbols.
abbrev pub first_code : ℕ
first_code = other_keyword_code + 1

-- `BV`
abbrev pub bv_code : ℕ
bv_code = first_code

-- `fail`
abbrev pub fail_code : ℕ
fail_code = bv_code + 1

-- `infeasible`
abbrev pub infeasible_code : ℕ
infeasible_code = fail_code + 1

-- `set-logic`
abbrev pub set_logic_code : ℕ
set_logic_code = infeasible_code + 1

-- `declare-var`
abbrev pub declare_var_code : ℕ
declare_var_code = set_logic_code + 1

-- `define-fun`
abbrev pub define_fun_code : ℕ
define_fun_code = declare_var_code + 1

-- `synth-fun`
abbrev pub synth_fun_code : ℕ
synth_fun_code = define_fun_code + 1

-- `constraint`
abbrev pub constraint_code : ℕ
constraint_code = synth_fun_code + 1

-- `check-synth`
abbrev pub check_synth_code : ℕ
check_synth_code = constraint_code + 1

-- `assume`
abbrev pub assume_code : ℕ
assume_code = check_synth_code + 1

-- `set-feature`
abbrev pub set_feature_code : ℕ
set_feature_code = assume_code + 1

-- How many other commands there are, which are not carried; their codes follow that of `set-feature`.
abbrev pub other_command_count : ℕ
other_command_count = 20

-- The first of them.
abbrev pub other_command_code : ℕ
other_command_code = set_feature_code + 1

-- `true`
abbrev pub true_code : ℕ
true_code = other_command_code + other_command_count

-- `false`
abbrev pub false_code : ℕ
false_code = true_code + 1

-- `Bool`
abbrev pub bool_code : ℕ
bool_code = false_code + 1

-- `BitVec`
abbrev pub bit_vec_code : ℕ
bit_vec_code = bool_code + 1

-- `_`
abbrev pub underscore_code : ℕ
underscore_code = bit_vec_code + 1

-- `!`
abbrev pub bang_code : ℕ
bang_code = underscore_code + 1

-- `let`
abbrev pub let_code : ℕ
let_code = bang_code + 1

-- `exists`
abbrev pub exists_code : ℕ
exists_code = let_code + 1

-- `forall`
abbrev pub forall_code : ℕ
forall_code = exists_code + 1

-- `Constant`
abbrev pub constant_code : ℕ
constant_code = forall_code + 1

-- `Variable`
abbrev pub variable_code : ℕ
variable_code = constant_code + 1

-- The first operator.
abbrev pub first_operator_code : ℕ
first_operator_code = variable_code + 1

-- How many words stand before the operators.
abbrev pub words_before : ℕ
words_before = first_operator_code - first_code

-- How many words there are.
abbrev pub known_count : ℕ
known_count = words_before + operator_count

-- Any other symbol, but for the words of constants.
abbrev pub other_code : ℕ
other_code = first_operator_code + operator_count

-- The word `bvN` of a constant `(_ bvN n)`.
abbrev pub decimal_code : ℕ
decimal_code = other_code + 1

-- One of too many digits.
abbrev pub long_decimal_code : ℕ
long_decimal_code = decimal_code + 1

-- `extract`
abbrev pub extract_code : ℕ
extract_code = first_operator_code + extract_number

-- The code and the value of a node: the kind of its label, what stands beside the kind, and the numbers of `(_ extract i j)`.
use Rattle.std.specs.Prelude.{ℕ, ◌+◌, ◌*◌, ◌/◌, ◌%◌}

-- The kind of a literal.
abbrev pub literal_kind : ℕ
literal_kind = 0

-- The kind of an argument or a variable.
abbrev pub name_kind : ℕ
name_kind = 1

-- The kind of an operator.
abbrev pub operator_kind : ℕ
operator_kind = 2

-- The kind of an applied `define-fun`.
abbrev pub defined_kind : ℕ
defined_kind = 3

-- The kind of an applied synthesized function.
abbrev pub function_kind : ℕ
function_kind = 4

-- The kind of a non-terminal in a rule; the kinds before it are those of labels.
abbrev pub non_terminal_kind : ℕ
non_terminal_kind = 5

-- The kind of `(Constant σ)` in a rule.
abbrev pub any_literal_kind : ℕ
any_literal_kind = 6

-- The kind of `(Variable σ)` in a rule.
abbrev pub any_argument_kind : ℕ
any_argument_kind = 7

-- Kinds are numbers below this.
abbrev pub kind_count : ℕ
kind_count = 16

-- The number j of `(_ extract i j)` is below this.
abbrev pub low_count : ℕ
low_count = 64

-- The code of a kind, and of what stands beside it.
abbrev pub code_with : (kind head : ℕ) → ℕ
code_with kind head = kind + kind_count * head

-- The kind in a code.
abbrev pub kind_of : (code : ℕ) → ℕ
kind_of code = code % kind_count

-- What stands beside the kind in a code: the sort of a literal, a name, `(Constant σ)` or `(Variable σ)`, or an operator's number.
abbrev pub head_of : (code : ℕ) → ℕ
head_of code = code / kind_count

-- The value of `(_ extract i j)`.
abbrev pub cut_value : (i j : ℕ) → ℕ
cut_value i j = low_count * i + j

-- The number i in such a value.
abbrev pub high_in : (value : ℕ) → ℕ
high_in value = value / low_count

-- The number j in such a value.
abbrev pub low_in : (value : ℕ) → ℕ
low_in value = value % low_count

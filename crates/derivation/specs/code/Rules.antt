-- What the functions that read the table of rules give.
use Rattle.std.specs.Prelude.{ℕ, List}
use Rattle.forest.specs.code.Rows.{number_at}

-- How many numbers a rule has in the table of rules.
abbrev pub rule_width : ℕ
rule_width = 3

-- The node where rule r starts.
abbrev pub start_at : List ℕ → ℕ → ℕ
start_at rules r = number_at rule_width rules r 0

-- The non-terminal of rule r.
abbrev pub non_terminal_at : List ℕ → ℕ → ℕ
non_terminal_at rules r = number_at rule_width rules r 1

-- The weight of rule r.
abbrev pub weight_at : List ℕ → ℕ → ℕ
weight_at rules r = number_at rule_width rules r 2

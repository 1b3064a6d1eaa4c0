-- What the sort rules of operators ask and give.
use Rattle.std.specs.Prelude.{ℕ, ◌≤◌, List, ◌≡◌}
use Rattle.operators.specs.Operators.{operator_sort}
use Rattle.operators.specs.Sorts.{SortRule, choice, cutting, equality, joining, logic, order, sort_by, width}
use Rattle.operators.specs.code.Rules.{sort_rule}
use Rattle.operators.specs.declared.rules.Rule.{Rule}
use Rattle.term_sorts.specs.code.Forms.{sort_number}
use Rattle.term_sorts.specs.code.Operands.{SortedTrees}
use Rattle.terms.specs.code.Codes.{high_in, low_in}

-- How many operands a rule asks for at least.
abbrev pub least : SortRule → ℕ
least logic = 1
least equality = 1
least choice = 2
least width = 1
least order = 1
least joining = 2
least cutting = 1

-- Operands that have sorts, as many as a rule asks for.
pub record Ruled (forms column : List ℕ) (place count : ℕ) (rule : Rule) : Type 0 where
  pub trees : SortedTrees forms column place count
  pub enough : least (sort_rule rule) ≤ count

-- The sort that the rule gives over them.
abbrev pub RuleGives : (forms column : List ℕ) (place count : ℕ) (rule : Rule) (value r : ℕ) → Type 0
RuleGives forms column place count rule value r =
    (e : Ruled forms column place count rule) → r ≡ sort_number (sort_by (sort_rule rule) (high_in value) (low_in value) e.trees.sorts)

-- The sort that an operator has over operands that have sorts.
abbrev pub OperatorGives : (forms column : List ℕ) (place count operator value r : ℕ) → Type 0
OperatorGives forms column place count operator value r =
    (e : SortedTrees forms column place count) → r ≡ sort_number (operator_sort operator (high_in value) (low_in value) e.sorts)

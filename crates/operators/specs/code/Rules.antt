-- The sort rules in the code's operator table.
use Rattle.operators.specs.Sorts.{SortRule, logic, equality, choice, width, order, joining, cutting}
use Rattle.operators.specs.declared.rules.Rule.{Rule}
use Rattle.operators.specs.declared.rules.Rule.TheVariants.{Logic, Equality, Choice, Width, Order, Joining, Cutting}

-- The sort rule that a rule of the table is.
abbrev pub sort_rule : Rule → SortRule
sort_rule Logic = logic
sort_rule Equality = equality
sort_rule Choice = choice
sort_rule Width = width
sort_rule Order = order
sort_rule Joining = joining
sort_rule Cutting = cutting

use mathlib.Core.Bool.{not}
use mathlib.Core.Path.{ap}
use Rattle.shapes.proofs.WholeRules.{ends_given, group_made, group_other, group_word}
use Rattle.lexemes.proofs.Listed.{as_list}
use native.Mathlib.Omega.{arith}
use Rattle.shapes.proofs.whole_rules.group_uncarried.Goals as goal

pub returns-then-code_at-ne-OPEN : goal.returns-then-code_at-ne-OPEN
returns-then-code_at-ne-OPEN c = search group_word

pub ends_in_list-requires : goal.ends_in_list-requires
ends_in_list-requires c = (as_list c.code_at.ensures c.if-code_at-ne-OPEN.false c.requires, omega arith)

pub returns-then-not-ends_in_list : goal.returns-then-not-ends_in_list
returns-then-not-ends_in_list c = search group_other

pub uncarried_start-requires : goal.uncarried_start-requires
uncarried_start-requires c = as_list c.code_at.ensures c.if-code_at-ne-OPEN.false c.requires

pub rules_part-requires : goal.rules_part-requires
rules_part-requires c = ends_given (as_list c.code_at.ensures c.if-code_at-ne-OPEN.false c.requires) c.ends_in_list.ensures (ap not c.if-not-ends_in_list.false)

pub returns : goal.returns
returns c = search group_made

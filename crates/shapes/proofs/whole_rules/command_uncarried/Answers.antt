use mathlib.Core.Bool.{not}
use mathlib.Core.Path.{ap}
use Rattle.shapes.proofs.WholeRules.{command_made, command_other, command_short, ends_given}
use Rattle.lexemes.proofs.Listed.{list_room}
use native.Mathlib.Omega.{arith}
use Rattle.shapes.proofs.whole_rules.command_uncarried.Goals as goal

pub overflow_add-at : goal.overflow_add-at
overflow_add-at c = omega (arith, list_room c.requires)

pub returns-then-not-weights-code_at : goal.returns-then-not-weights-code_at
returns-then-not-weights-code_at c = search command_other

pub ends_in_list-requires : goal.ends_in_list-requires
ends_in_list-requires c = (c.requires, omega arith)

pub returns-then-not-ends_in_list : goal.returns-then-not-ends_in_list
returns-then-not-ends_in_list c = search command_short

pub groups_part-requires : goal.groups_part-requires
groups_part-requires c = ends_given c.requires c.ends_in_list.ensures (ap not c.if-not-ends_in_list.false)

pub returns : goal.returns
returns c = search command_made

use native.Mathlib.Omega.{arith}
use Rattle.commands.proofs.VariableItems.{sort_here, sort_room, variable_here}
use Rattle.commands.proofs.VariableTests.{name_found, name_new}
use Rattle.commands.proofs.declare_var.name_place.Goals as goal

pub overflow_add-at : goal.overflow_add-at
overflow_add-at c = omega (arith, sort_room (variable_here c.requires.of))

pub new_name-name-requires : goal.new_name-name-requires
new_name-name-requires c = search name_new

pub overflow_add-at-2 : goal.overflow_add-at-2
overflow_add-at-2 c = omega (arith, sort_room (variable_here c.requires.of))

pub sort_place-requires : goal.sort_place-requires
sort_place-requires c = sort_here (variable_here c.requires.of)

pub returns : goal.returns
returns c = search name_found

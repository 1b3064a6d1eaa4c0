use Rattle.commands.proofs.VariableTests.{adding, name_faulty, passes, past_limit, sort_faulty}
use Rattle.commands.proofs.VariableItems.{sort_here, sort_room, variable_here}
use native.Mathlib.Omega.{arith}
use Rattle.commands.proofs.declare_var.declare_var.Goals as goal

pub limit_place-limit-requires : goal.limit_place-limit-requires
limit_place-limit-requires c = sort_here (variable_here c.requires.of)

pub returns-then-limit-nowhere : goal.returns-then-limit-nowhere
returns-then-limit-nowhere c = search past_limit

pub add_variable-requires : goal.add_variable-requires
add_variable-requires c = search adding

pub returns-then-name-nowhere : goal.returns-then-name-nowhere
returns-then-name-nowhere c = search name_faulty

pub overflow_add-at : goal.overflow_add-at
overflow_add-at c = omega (arith, sort_room (variable_here c.requires.of))

pub sort_place-sort-requires : goal.sort_place-sort-requires
sort_place-sort-requires c = sort_here (variable_here c.requires.of)

pub returns-then-sort-nowhere : goal.returns-then-sort-nowhere
returns-then-sort-nowhere c = search sort_faulty

pub returns : goal.returns
returns c = search passes

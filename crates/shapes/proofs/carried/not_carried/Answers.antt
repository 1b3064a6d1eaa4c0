use Rattle.shapes.proofs.CarriedChoosing.{carried_command, other_list, uncarried_command}
use Rattle.lexemes.proofs.Listed.{list_room}
use native.Mathlib.Omega.{arith}
use Rattle.shapes.proofs.carried.not_carried.Goals as goal

pub overflow_add-at : goal.overflow_add-at
overflow_add-at c = omega (arith, list_room c.requires)

pub returns-then-command : goal.returns-then-command
returns-then-command c = search other_list

pub returns-then-other-other_logic : goal.returns-then-other-other_logic
returns-then-other-other_logic c = search uncarried_command

pub returns : goal.returns
returns c = search carried_command

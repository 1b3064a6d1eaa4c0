use Rattle.script_reader.proofs.CommandReading.{few_after, in_shape, read_misplaced, read_tested, read_uncarried, refused_here, word_near}
use native.Mathlib.Omega.{arith}
use Rattle.script_reader.proofs.command.read_command.Goals as goal

pub returns-then-not_carried : goal.returns-then-not_carried
returns-then-not_carried c = read_uncarried c.not_carried.ensures c.if-not_carried.true c.answer.ensures

pub overflow_add-at : goal.overflow_add-at
overflow_add-at c = omega (arith, word_near c.requires)

pub returns-then-command_shape-out_of_place : goal.returns-then-command_shape-out_of_place
returns-then-command_shape-out_of_place c = read_misplaced c.not_carried.ensures c.if-not_carried.false c.code_at-code.ensures c.command_shape.ensures c.out_of_place.ensures c.if-command_shape-out_of_place.true c.answer-then-command_shape-out_of_place.ensures

pub test_command-tested-requires : goal.test_command-tested-requires
test_command-tested-requires c = in_shape c.not_carried.ensures c.if-not_carried.false c.code_at-code.ensures c.command_shape.ensures c.out_of_place.ensures c.if-command_shape-out_of_place.false c.requires

pub second_of-second-requires : goal.second_of-second-requires
second_of-second-requires c = refused_here c.not_carried.ensures c.if-not_carried.false c.code_at-code.ensures c.command_shape.ensures c.out_of_place.ensures c.if-command_shape-out_of_place.false c.test_command-tested.ensures c.requires

pub step_by-requires : goal.step_by-requires
step_by-requires c = few_after c.not_carried.ensures c.if-not_carried.false c.code_at-code.ensures c.command_shape.ensures c.out_of_place.ensures c.if-command_shape-out_of_place.false c.test_command-tested.ensures c.requires

pub returns : goal.returns
returns c = read_tested c.not_carried.ensures c.if-not_carried.false c.code_at-code.ensures c.command_shape.ensures c.out_of_place.ensures c.if-command_shape-out_of_place.false c.test_command-tested.ensures c.second_of-second.ensures c.step_by.ensures

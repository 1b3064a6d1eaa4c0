use Rattle.shapes.proofs.CarriedTests.{logic_test, no_logic_test}
use Rattle.lexemes.proofs.Listed.{list_room}
use native.Mathlib.Omega.{arith}
use Rattle.shapes.proofs.carried.other_logic.Goals as goal

pub overflow_add-at : goal.overflow_add-at
overflow_add-at c = omega (arith, list_room c.requires)

pub returns-then-code_at-ne-SET_LOGIC : goal.returns-then-code_at-ne-SET_LOGIC
returns-then-code_at-ne-SET_LOGIC c = search no_logic_test

pub overflow_add-at-2 : goal.overflow_add-at-2
overflow_add-at-2 c = omega (arith, list_room c.requires)

pub returns : goal.returns
returns c = search logic_test

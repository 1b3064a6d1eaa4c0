use Rattle.shapes.proofs.CarriedTests.{start_test}
use Rattle.lexemes.proofs.Listed.{list_room}
use native.Mathlib.Omega.{arith}
use Rattle.shapes.proofs.carried.uncarried_start.Goals as goal

pub overflow_add-at : goal.overflow_add-at
overflow_add-at c = omega (arith, list_room c.requires)

pub overflow_add-at-2 : goal.overflow_add-at-2
overflow_add-at-2 c = omega (arith, list_room c.requires)

pub returns : goal.returns
returns c = search start_test

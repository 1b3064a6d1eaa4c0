use native.Mathlib.Omega.{arith}
use Rattle.lexemes.proofs.Listed.{item_room}
use Rattle.commands.proofs.VariableTests.{limit_found}
use Rattle.commands.proofs.declare_var.limit_place.Goals as goal

pub overflow_add-at : goal.overflow_add-at
overflow_add-at c = omega (arith, item_room c.requires.here)

pub returns : goal.returns
returns c = search limit_found

use Rattle.shapes.proofs.Annotated.{annotated_test}
use Rattle.lexemes.proofs.Listed.{item_room}
use native.Mathlib.Omega.{arith}
use Rattle.shapes.proofs.annotations.is_annotated.Goals as goal

pub overflow_add-at : goal.overflow_add-at
overflow_add-at c = omega (arith, item_room c.requires)

pub returns : goal.returns
returns c = search annotated_test

use Rattle.shapes.proofs.TestsByCode.{pattern_test}
use Rattle.lexemes.proofs.Listed.{item_room}
use native.Mathlib.Omega.{arith}
use Rattle.shapes.proofs.rules.is_pattern.Goals as goal

pub overflow_add-at : goal.overflow_add-at
overflow_add-at c = omega (arith, item_room c.requires)

pub returns : goal.returns
returns c = search pattern_test

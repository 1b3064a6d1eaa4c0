use native.Mathlib.Omega.{arith}
use Rattle.lexemes.proofs.Listed.{list_room}
use Rattle.grammars.proofs.parts.result_at.Goals as goal

pub overflow_add-at : goal.overflow_add-at
overflow_add-at c = omega (arith, list_room c.requires.here)

pub returns : goal.returns
returns c = cc

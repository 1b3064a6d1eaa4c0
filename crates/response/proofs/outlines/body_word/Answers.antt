use Rattle.lexemes.proofs.Listed.{list_room}
use native.Mathlib.Omega.{arith}
use Rattle.response.proofs.outlines.body_word.Goals as goal

pub overflow_add-at : goal.overflow_add-at
overflow_add-at c = omega (arith, list_room c.requires)

pub returns : goal.returns
returns c = cc

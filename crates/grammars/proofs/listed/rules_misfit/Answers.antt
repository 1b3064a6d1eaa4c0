use Rattle.grammars.proofs.Empty.{closed_early, closed_later}
use Rattle.lexemes.proofs.Listed.{list_room}
use native.Mathlib.Omega.{arith}
use Rattle.grammars.proofs.listed.rules_misfit.Goals as goal

pub overflow_add-result : goal.overflow_add-result
overflow_add-result c = omega (arith, list_room c.requires)

pub returns-then-is_empty : goal.returns-then-is_empty
returns-then-is_empty c = search closed_early

pub returns : goal.returns
returns c = search closed_later

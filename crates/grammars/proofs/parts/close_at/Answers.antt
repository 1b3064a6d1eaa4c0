use native.Mathlib.Omega.{arith}
use Rattle.grammars.proofs.SynthFunParts.{list_closes}
use Rattle.grammars.proofs.parts.close_at.Goals as goal

pub overflow_sub-result : goal.overflow_sub-result
overflow_sub-result c = omega (arith, list_closes c.requires c.next_at.ensures)

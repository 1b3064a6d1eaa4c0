use Prim.Native.Nat.{◌-◌}
use Rattle.lexemes.proofs.Along.{AlongAny}
use Rattle.shapes.proofs.Annotated.{Attributes}
use Rattle.shapes.proofs.annotations.attributes_shape.Given as goal

abbrev pub invariant-loop-at : goal.invariant-loop-at
invariant-loop-at l = AlongAny l.lexemes l.first l.close l.at (Attributes l.named)

abbrev pub decreases-loop-at : goal.decreases-loop-at
decreases-loop-at l = l.close - l.at

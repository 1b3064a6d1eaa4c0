use Rattle.lexemes.proofs.Along.{AlongAny}
use Rattle.shapes.proofs.Every.{Still}
use Rattle.shapes.specs.Shapes.{rule_shape}
use Prim.Native.Nat.{◌-◌}
use Rattle.shapes.proofs.grammars.all_rules.Given as goal

abbrev pub invariant-loop-at : goal.invariant-loop-at
invariant-loop-at l = AlongAny l.lexemes l.first l.close l.at (Still rule_shape)

abbrev pub decreases-loop-at : goal.decreases-loop-at
decreases-loop-at l = l.close - l.at

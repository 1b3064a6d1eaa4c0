use Prim.Native.Nat.{◌-◌}
use Rattle.lexemes.proofs.Along.{AlongAny}
use Rattle.shapes.proofs.AnyOf.{Left}
use Rattle.shapes.specs.Carried.{rule_uncarried}
use Rattle.shapes.proofs.whole_rules.rules_uncarried.Given as goal

abbrev pub invariant-loop-at : goal.invariant-loop-at
invariant-loop-at l = AlongAny l.lexemes l.first l.close l.at (Left rule_uncarried)

abbrev pub decreases-loop-at : goal.decreases-loop-at
decreases-loop-at l = l.close - l.at

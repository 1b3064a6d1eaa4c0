use Prim.Native.Nat.{◌-◌}
use Rattle.term_nodes.proofs.RuleWeights.{Weighing}
use Rattle.term_nodes.proofs.weights.attributes_past.Given as goal

abbrev pub invariant-loop-at : goal.invariant-loop-at
invariant-loop-at l = Weighing l.lexemes l.first l.close l.nowhere l.place l.at

abbrev pub decreases-loop-at : goal.decreases-loop-at
decreases-loop-at l = l.close - l.at

use Rattle.term_nodes.proofs.ConstantLimits.{Looking}
use Rattle.term_nodes.proofs.limits.constants_past.Given as goal

abbrev pub invariant-loop-node : goal.invariant-loop-node
invariant-loop-node l = Looking l.lexemes l.raw l.first l.end l.nowhere l.node l.place

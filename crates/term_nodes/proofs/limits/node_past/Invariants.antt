use Rattle.term_nodes.proofs.PastLimit.{Seeking}
use Rattle.term_nodes.proofs.limits.node_past.Given as goal

abbrev pub invariant-loop-node : goal.invariant-loop-node
invariant-loop-node l = Seeking l.lexemes l.raw l.first l.end l.most l.nowhere l.node l.counted

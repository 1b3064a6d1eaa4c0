use Rattle.term_nodes.proofs.GatheringWalk.{Walk}
use Prim.Native.Nat.{◌-◌}
use Rattle.term_nodes.proofs.gather.gather_terms.Given as goal

abbrev pub invariant-loop-at : goal.invariant-loop-at
invariant-loop-at l = Walk l.lexemes l.first l.end l.initial.raw l.node l.raw l.at l.next

abbrev pub decreases-loop-at : goal.decreases-loop-at
decreases-loop-at l = l.end - l.at

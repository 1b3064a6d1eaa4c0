use Rattle.term_nodes.proofs.Counting.{Sweep}
use Rattle.term_nodes.proofs.sizes.count_nodes.Given as goal

abbrev pub invariant-loop-node : goal.invariant-loop-node
invariant-loop-node l = Sweep l.initial.raw l.count l.raw l.node

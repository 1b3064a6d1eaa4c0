use Rattle.term_nodes.proofs.Counting.{Passes}
use Rattle.term_nodes.proofs.sizes.past_tree.Given as goal

abbrev pub invariant-loop-passed : goal.invariant-loop-passed
invariant-loop-passed l = Passes l.raw l.node l.next l._passed

use Rattle.term_sorts.proofs.Filling.{Filled}
use Rattle.term_sorts.proofs.fill_sorts.Given as goal

abbrev pub invariant-loop-node : goal.invariant-loop-node
invariant-loop-node l = Filled l.forms l.signatures l.count l.initial.column l.column l.fault l.node

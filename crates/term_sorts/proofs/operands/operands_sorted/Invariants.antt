use Rattle.term_sorts.proofs.AllSorted.{Undecided}
use Rattle.term_sorts.proofs.operands.operands_sorted.Given as goal

abbrev pub invariant-loop-tree : goal.invariant-loop-tree
invariant-loop-tree l = Undecided l.forms l.column l.place l.count l.here l._tree

use Rattle.term_sorts.proofs.Commons.{Agreeing}
use Rattle.term_sorts.proofs.operands.common_sort.Given as goal

abbrev pub invariant-loop-tree : goal.invariant-loop-tree
invariant-loop-tree l = Agreeing l.forms l.column l.place l.count l.sort l.here l._tree

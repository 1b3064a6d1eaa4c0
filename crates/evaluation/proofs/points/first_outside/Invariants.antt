use Rattle.evaluation.proofs.PointLists.{NoneBefore}
use Rattle.evaluation.proofs.points.first_outside.Given as goal

abbrev pub invariant-loop-i : goal.invariant-loop-i
invariant-loop-i l = NoneBefore l.sorts l.numbers l.i

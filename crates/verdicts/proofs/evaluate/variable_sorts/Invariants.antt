use Rattle.verdicts.proofs.VariableSorts.{SortsRead}
use Rattle.verdicts.proofs.evaluate.variable_sorts.Given as goal

abbrev pub invariant-loop-k : goal.invariant-loop-k
invariant-loop-k l = SortsRead l.names l.sorts l.k

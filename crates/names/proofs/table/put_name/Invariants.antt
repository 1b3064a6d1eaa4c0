use Rattle.names.proofs.Names.{Writing}
use Rattle.names.proofs.table.put_name.Given as goal

abbrev pub invariant-loop-k : goal.invariant-loop-k
invariant-loop-k l = Writing l.initial.names l.word l.names l.at l.k

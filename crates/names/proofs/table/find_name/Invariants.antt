use Rattle.names.proofs.Names.{Searching}
use Rattle.names.proofs.table.find_name.Given as goal

abbrev pub invariant-loop-place : goal.invariant-loop-place
invariant-loop-place l = Searching l.names l.word l.first l.count l.place

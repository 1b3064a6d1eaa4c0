use Rattle.blocks.proofs.Putting.{Zeros}
use Rattle.blocks.proofs.writing.put_zeros.Given as goal

abbrev pub invariant-loop : goal.invariant-loop
invariant-loop l = Zeros l.initial.place l.count l.initial.area l.place l.counter l.area

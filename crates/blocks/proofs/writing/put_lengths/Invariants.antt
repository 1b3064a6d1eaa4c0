use Rattle.blocks.proofs.Putting.{Lengths}
use Rattle.blocks.proofs.writing.put_lengths.Given as goal

abbrev pub invariant-loop-function : goal.invariant-loop-function
invariant-loop-function l = Lengths l.initial.place l.shown l.initial.area l.place l.function l.area

use Rattle.blocks.proofs.Putting.{Lists}
use Rattle.blocks.proofs.writing.put_lists.Given as goal

abbrev pub invariant-loop-function : goal.invariant-loop-function
invariant-loop-function l = Lists l.initial.place l.shown l.initial.area l.place l.function l.area

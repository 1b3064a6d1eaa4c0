use Rattle.blocks.proofs.Putting.{Summed}
use Rattle.blocks.proofs.writing.rules_in.Given as goal

abbrev pub invariant-loop-function : goal.invariant-loop-function
invariant-loop-function l = Summed l.shown l.rules l.function

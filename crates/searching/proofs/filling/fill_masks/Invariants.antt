use Rattle.searching.proofs.Sweep.{Inv}
use Rattle.searching.proofs.filling.fill_masks.Given as goal

abbrev pub invariant-loop-node : goal.invariant-loop-node
invariant-loop-node l = Inv l.rules l.forms l.body l.initial.masks l.initial.choices l.masks l.choices l.node

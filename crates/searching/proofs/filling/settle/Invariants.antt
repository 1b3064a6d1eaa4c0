use Prim.Native.Nat.{◌-◌}
use Rattle.derivation.proofs.Count.{cnt}
use Rattle.searching.proofs.Members.{State}
use Rattle.derivation.specs.code.Masks.{has}
use Rattle.forest.specs.Limits.{most_non_terminals}
use Rattle.searching.proofs.filling.settle.Given as goal

abbrev pub invariant-loop-choice : goal.invariant-loop-choice
invariant-loop-choice l = State l.rules l.forms l.costs l.live l.initial.row l.initial.chosen l.row l.chosen l.known

abbrev pub decreases-loop-choice : goal.decreases-loop-choice
decreases-loop-choice l = most_non_terminals - cnt (has l.known) most_non_terminals

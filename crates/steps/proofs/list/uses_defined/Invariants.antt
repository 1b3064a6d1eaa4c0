use Rattle.steps.specs.code.List.{TermsStand}
use Rattle.steps.proofs.Uses.{NoneYet}
use Rattle.steps.proofs.list.uses_defined.Given as goal

abbrev pub invariant-loop-node : goal.invariant-loop-node
invariant-loop-node l = (e : TermsStand l.nodes l.start l.stop) → NoneYet e l.node

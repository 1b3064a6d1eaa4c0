use Rattle.blocks.proofs.Putting.{Rules}
use Rattle.blocks.proofs.writing.put_rules.Given as goal

abbrev pub invariant-loop-rule : goal.invariant-loop-rule
invariant-loop-rule l = Rules l.initial.place l.rules l.initial.area l.place l.rule-index l.area

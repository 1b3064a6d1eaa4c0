use Rattle.searching.proofs.Uses.{Inv}
use Rattle.searching.proofs.filling.price_rules.Given as goal

abbrev pub invariant-loop-rule : goal.invariant-loop-rule
invariant-loop-rule l = Inv l.rules l.forms l.body l.masks l.node l.count l.costs l.live l.kept l.rule

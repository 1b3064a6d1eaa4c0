use Rattle.derivation.proofs.PassLoops.{PassInv}
use Rattle.derivation.proofs.productive.one_pass.Given as goal

abbrev pub invariant-loop-rule : goal.invariant-loop-rule
invariant-loop-rule l = PassInv l.rules l.forms l.arguments l.found l.rule-end l.grown l.rule

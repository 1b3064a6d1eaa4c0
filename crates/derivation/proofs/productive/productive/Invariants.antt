use Rattle.derivation.proofs.PassLoops.{PassesInv}
use Rattle.derivation.proofs.productive.productive.Given as goal

abbrev pub invariant-loop-pass : goal.invariant-loop-pass
invariant-loop-pass l = PassesInv l.rules l.forms l.arguments l.fn.count l.found l._pass

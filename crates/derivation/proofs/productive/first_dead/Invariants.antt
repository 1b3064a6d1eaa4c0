use Rattle.derivation.proofs.PassLoops.{DeadInv}
use Rattle.derivation.proofs.productive.first_dead.Given as goal

abbrev pub invariant-loop-nonterminal : goal.invariant-loop-nonterminal
invariant-loop-nonterminal l = DeadInv l.rules l.forms l.arguments l.count l.found l.nonterminal

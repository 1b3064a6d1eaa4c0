use Rattle.term_faults.proofs.RulesLoop.{Passing}
use Rattle.term_faults.proofs.grammars.rules_misfit.Given as goal

abbrev pub invariant-loop-rule : goal.invariant-loop-rule
invariant-loop-rule l = Passing l.lexemes l.raw l.rules l.signatures l.column l.count l.listed l.nowhere l.place l.rule

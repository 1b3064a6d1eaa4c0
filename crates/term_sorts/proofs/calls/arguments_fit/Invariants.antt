use Rattle.term_sorts.proofs.Arguments.{Fitting}
use Rattle.term_sorts.proofs.calls.arguments_fit.Given as goal

abbrev pub invariant-loop-argument : goal.invariant-loop-argument
invariant-loop-argument l = Fitting l.forms l.signatures l.column l.place l.count l.row l.here l.argument

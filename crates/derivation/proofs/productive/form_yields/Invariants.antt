use Rattle.derivation.proofs.YieldWalk.{Inv}
use Rattle.derivation.proofs.productive.form_yields.Given as goal

abbrev pub invariant-loop-place : goal.invariant-loop-place
invariant-loop-place l = Inv l.rules l.forms l.arguments l.found l.rule l.end l.place

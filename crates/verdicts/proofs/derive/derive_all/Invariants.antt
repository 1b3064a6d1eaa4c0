use Rattle.verdicts.specs.code.Derive.{Derivable}
use Rattle.verdicts.proofs.DeriveTurns.{Going}
use Rattle.verdicts.proofs.derive.derive_all.Given as goal

abbrev pub invariant-loop-function : goal.invariant-loop-function
invariant-loop-function l = (q : Derivable l.places l.nodes l.forms l.progress l.initial.shown l.initial.totals) → Going q l.shown l.totals l.function

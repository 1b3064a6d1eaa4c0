use Rattle.evaluation.proofs.Runs.{TermsLeft}
use Rattle.evaluation.specs.code.Running.{Runnable}
use Prim.Native.Nat.{◌≤◌, ◌-◌, ◌^◌}
use Rattle.evaluation.proofs.running.run_terms.Given as goal

abbrev pub invariant-loop-k : goal.invariant-loop-k
invariant-loop-k l = (l.left ≤ 2 ^ 64 - 1) × ((e : Runnable l.nodes l.bodies l.prices l.places l.initial.stack l.width l.turn.first l.turn.count) → TermsLeft e l.stack l.turn.point l.budget l.left l.k)

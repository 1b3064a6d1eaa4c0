use Rattle.evaluation.proofs.PointRuns.{PointsLeft}
use Rattle.evaluation.specs.code.Running.{PointsRunnable, stack_size}
use lib.ListN.{length}
use mathlib.Core.Path.{◌≡◌}
use Rattle.evaluation.proofs.running.run_points.Given as goal

abbrev pub invariant-loop-point : goal.invariant-loop-point
invariant-loop-point l = (length l.stack ≡ stack_size) × ((e : PointsRunnable l.nodes l.bodies l.costs l.places l.stated l.sorts l.numbers) → PointsLeft e l.budget l.run l.point)

use lib.ListN.{length}
use Rattle.evaluation.specs.code.Costs.{Costing}
use Prim.Native.Nat.{◌≤◌, ◌-◌, ◌^◌}
use Rattle.evaluation.proofs.CostTurns.{Summed}
use Rattle.evaluation.proofs.costs.cost_at.Given as goal

abbrev pub invariant-loop-j : goal.invariant-loop-j
invariant-loop-j l = (l.sum ≤ 2 ^ 64 - 1) × (l.j-end ≤ length l.nodes) × ((e : Costing l.nodes l.bodies l.costs l.node) → Summed e l.j-end l.sum l.j)

use Rattle.evaluation.specs.code.Running.{Prices}
use Prim.Native.Nat.{◌+◌, ◌≤◌}
use Rattle.evaluation.proofs.running.put_costs.Given as goal

abbrev pub invariant-loop-k : goal.invariant-loop-k
invariant-loop-k l = (l.first ≤ l.k) × (l.k ≤ l.first + l.count) × Prices l.nodes l.bodies l.costs l.places l.initial.prices l.prices l.first l.k

use Prim.Native.Nat.{◌-◌, ◌≤◌}
use Rattle.steps.specs.code.List.{Listable}
use Rattle.steps.proofs.Writing.{SoFar}
use Rattle.steps.proofs.list.+write_steps.Given as goal

abbrev pub decreases-write_steps : goal.decreases-write_steps
decreases-write_steps l = l.stop - l.start

abbrev pub invariant-loop-node : goal.invariant-loop-node
invariant-loop-node l = (l.start ≤ l.node) × ((e : Listable l.nodes l.initial.area l.start l.stop l.at) → SoFar e l.area l.node l.place)

abbrev pub decreases-loop-node : goal.decreases-loop-node
decreases-loop-node l = l.stop - l.node

use lib.ListN.{length}
use Prim.Native.Nat.{◌≤◌, ◌-◌, ◌+◌}
use Rattle.test_vectors.proofs.records.report_all.Given as goal

abbrev pub invariant-loop-at : goal.invariant-loop-at
invariant-loop-at g l = l.at ≤ length l.input + 1

abbrev pub decreases-loop-at : goal.decreases-loop-at
decreases-loop-at g l = length l.input + 1 - l.at

use lib.ListN.{drop, take}
use Prim.Native.Nat.{◌+◌, ◌-◌}
use Rattle.blocks.proofs.Adding.{Inv}
use Rattle.blocks.proofs.sum_at.Given as goal

abbrev pub invariant-loop-i : goal.invariant-loop-i
invariant-loop-i l = Inv (take (l.start + 510 - l.start) (drop l.start l.file)) l.sum l.i

use Prim.Native.Nat.{◌-◌}
use Rattle.words.proofs.Chains.{Inside}
use Rattle.words.proofs.links.close_of.Given as goal

abbrev pub invariant-loop-i : goal.invariant-loop-i
invariant-loop-i l = Inside l.table l.count l.at l.i

abbrev pub decreases-loop-i : goal.decreases-loop-i
decreases-loop-i l = l.count - l.i

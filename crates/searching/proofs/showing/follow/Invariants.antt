use Prim.Native.Nat.{◌-◌}
use lib.ListN.{length}
use Rattle.searching.proofs.Trail.{Inv}
use Rattle.searching.proofs.showing.follow.Given as goal

abbrev pub invariant-loop-node : goal.invariant-loop-node
invariant-loop-node l = Inv l.rules l.forms l.choices l.node l.nonterminal l.initial.shown l.at l.shown l.current l.next

abbrev pub decreases-loop-node : goal.decreases-loop-node
decreases-loop-node l = length l.shown - l.next

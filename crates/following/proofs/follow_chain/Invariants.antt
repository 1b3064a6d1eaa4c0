use Rattle.following.proofs.Chain.{Inv}
use lib.ListN.{length}
use Prim.Native.Nat.{◌-◌}
use Rattle.following.proofs.follow_chain.Given as goal

abbrev pub invariant-loop-nonterminal : goal.invariant-loop-nonterminal
invariant-loop-nonterminal l = Inv l.rules l.forms l.list l.nonterminal l.at l.current l.used l.next

abbrev pub decreases-loop-nonterminal : goal.decreases-loop-nonterminal
decreases-loop-nonterminal l = length l.list - l.next

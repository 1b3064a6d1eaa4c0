use Prim.Native.Nat.{◌-◌}
use Rattle.names.proofs.PairTurns.{Going}
use Rattle.names.proofs.new.new_pairs.Given as goal

abbrev pub invariant-loop-at : goal.invariant-loop-at
invariant-loop-at l = Going l.text l.lexemes l.initial.names l.scope l.row l.first l.close l.nowhere l.names l.place l.at l.done

abbrev pub decreases-loop-at : goal.decreases-loop-at
decreases-loop-at l = l.close - l.at

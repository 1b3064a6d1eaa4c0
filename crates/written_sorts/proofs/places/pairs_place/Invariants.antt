use Rattle.written_sorts.proofs.Least.{Seeking}
use Rattle.written_sorts.specs.Written.{pair_place}
use Rattle.shapes.specs.Shapes.{pair_shape}
use Prim.Native.Nat.{◌-◌}
use Rattle.written_sorts.proofs.places.pairs_place.Given as goal

abbrev pub invariant-loop-at : goal.invariant-loop-at
invariant-loop-at l = Seeking pair_shape (pair_place l.fault l.nowhere) l.lexemes l.first l.close l.nowhere l.place l.at

abbrev pub decreases-loop-at : goal.decreases-loop-at
decreases-loop-at l = l.close - l.at

use Rattle.written_sorts.proofs.Least.{Seeking}
use Rattle.written_sorts.specs.Written.{rule_place}
use Rattle.shapes.specs.Shapes.{rule_shape}
use Prim.Native.Nat.{◌-◌, ◌+◌}
use Rattle.written_sorts.proofs.headers.rules_in.Given as goal

abbrev pub invariant-loop-at : goal.invariant-loop-at
invariant-loop-at l = Seeking rule_shape (rule_place l.fault l.nowhere) l.lexemes (l.list + 1) l.close l.nowhere l.place l.at

abbrev pub decreases-loop-at : goal.decreases-loop-at
decreases-loop-at l = l.close - l.at

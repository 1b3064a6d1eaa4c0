use Rattle.response.proofs.ListRead.{Going}
use Prim.Native.Nat.{◌-◌}
use Rattle.response.proofs.answers.read_list.Given as goal

abbrev pub invariant-loop-at : goal.invariant-loop-at
invariant-loop-at l = Going l.text l.lexemes l.names l.initial.raw l.initial.places l.initial.nodes l.progress l.nowhere l.raw l.places l.nodes l.close l.at l.function l.rows

abbrev pub decreases-loop-at : goal.decreases-loop-at
decreases-loop-at l = l.close - l.at

use Prim.Native.Nat.{◌-◌, ◌≤◌}
use Rattle.forest.specs.Limits.{most_nodes, most_rules}
use Rattle.term_nodes.proofs.GroupLoop.{GroupsTo}
use Rattle.term_nodes.proofs.rules.gather_rules.Given as goal

abbrev pub invariant-loop-at : goal.invariant-loop-at
invariant-loop-at l = GroupsTo l.lexemes l.first l.close l.nowhere most_rules most_nodes l.initial.raw l.initial.rules l.head l.raw l.rules l.found l.at × (l.head ≤ l.at)

abbrev pub decreases-loop-at : goal.decreases-loop-at
decreases-loop-at l = l.close - l.at

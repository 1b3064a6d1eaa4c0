use Rattle.names.proofs.NodeTurns.{Going}
use Rattle.names.proofs.forms.write_forms.Given as goal

abbrev pub invariant-loop-node : goal.invariant-loop-node
invariant-loop-node l = Going l.names l.text l.lexemes l.raw l.initial.forms l.seen l.target.count l.target.base l.target.nowhere l.forms l.unknown l.node

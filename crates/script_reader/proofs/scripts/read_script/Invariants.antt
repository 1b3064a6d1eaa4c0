use Prim.Native.Nat.{◌-◌}
use Rattle.script_reader.proofs.ScriptWalk.{Walk}
use Rattle.script_reader.proofs.scripts.read_script.Given as goal

abbrev pub invariant-loop-at : goal.invariant-loop-at
invariant-loop-at l = Walk l.text l.lexemes l.initial.names l.initial.raw l.initial.places l.initial.nodes l.initial.forms l.nowhere l.names l.raw l.places l.nodes l.forms l.progress l.at

abbrev pub decreases-loop-at : goal.decreases-loop-at
decreases-loop-at l = l.nowhere - l.at

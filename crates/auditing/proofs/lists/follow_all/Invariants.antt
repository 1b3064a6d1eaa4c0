use Rattle.auditing.specs.code.Lists.{FileHeld}
use Rattle.auditing.proofs.FollowTurns.{Going}
use Rattle.auditing.proofs.lists.follow_all.Given as goal

abbrev pub invariant-loop-function : goal.invariant-loop-function
invariant-loop-function l = (q : FileHeld l.file l.places l.nodes l.forms l.progress) → Going q l.function

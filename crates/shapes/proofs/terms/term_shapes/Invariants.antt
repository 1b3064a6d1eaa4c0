use Rattle.lexemes.proofs.Pending.{DownAny}
use Rattle.shapes.proofs.TermWalk.{Terms}
use Prim.Native.Nat.{◌-◌}
use Rattle.shapes.proofs.terms.term_shapes.Given as goal

abbrev pub invariant-loop-at : goal.invariant-loop-at
invariant-loop-at l = DownAny l.lexemes l.first l.end l.at Terms

abbrev pub decreases-loop-at : goal.decreases-loop-at
decreases-loop-at l = l.end - l.at

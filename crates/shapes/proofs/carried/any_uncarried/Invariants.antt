use Rattle.lexemes.proofs.Pending.{DownAny}
use Rattle.shapes.proofs.CarriedWalks.{Uncarried}
use Rattle.shapes.proofs.carried.any_uncarried.Given as goal

abbrev pub invariant-loop-at : goal.invariant-loop-at
invariant-loop-at l = DownAny l.lexemes l.first l.end l.at Uncarried

use Rattle.headers.proofs.PairsHeld.{Passing}
use Rattle.headers.proofs.compare.pairs_differ.Given as goal

abbrev pub invariant-loop-argument : goal.invariant-loop-argument
invariant-loop-argument l = Passing l.text l.lexemes l.names l.first l.close l.row l.arguments l.argument l.at

use Rattle.lexemes.proofs.Along.{AlongAny, Passed}
use Rattle.lexemes.proofs.items.item_at.Given as goal

abbrev pub invariant-loop-passed : goal.invariant-loop-passed
invariant-loop-passed l = AlongAny l.lexemes l.first l.close l.word (Passed l._passed)

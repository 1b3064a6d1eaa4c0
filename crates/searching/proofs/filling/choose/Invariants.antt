use Rattle.searching.proofs.Uses.{Search}
use Rattle.searching.proofs.filling.choose.Given as goal

abbrev pub invariant-loop-number : goal.invariant-loop-number
invariant-loop-number l = Search l.rules l.forms l.costs l.live l.row l.known l.best l.least l.number-index

use Rattle.names.proofs.EarlierRows.{LastLeft}
use Rattle.names.proofs.earlier.last_of.Given as goal

abbrev pub invariant-loop-row : goal.invariant-loop-row
invariant-loop-row l = LastLeft l.names l.name l.first l.count l.word l.place l.last l.row

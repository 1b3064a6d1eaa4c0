use Rattle.names.proofs.EarlierRows.{RowLeft}
use Rattle.names.proofs.earlier.find_row.Given as goal

abbrev pub invariant-loop-row : goal.invariant-loop-row
invariant-loop-row l = RowLeft l.names l.first l.count l.word l.row

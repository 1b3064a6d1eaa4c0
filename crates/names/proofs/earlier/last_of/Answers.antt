use Rattle.names.proofs.EarlierRows.{last_ends, last_turn}
use Rattle.names.proofs.earlier.last_of.Goals as goal

pub loop-row-preserved : goal.loop-row-preserved
loop-row-preserved c = search last_turn

pub returns : goal.returns
returns c = search last_ends

use Rattle.names.proofs.EarlierRows.{row_found, row_none, row_turn}
use Rattle.names.proofs.earlier.find_row.Goals as goal

pub returns-then-word_in-word : goal.returns-then-word_in-word
returns-then-word_in-word c = search row_found

pub loop-row-preserved : goal.loop-row-preserved
loop-row-preserved c = search row_turn

pub returns : goal.returns
returns c = search row_none

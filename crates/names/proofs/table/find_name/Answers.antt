use Rattle.names.proofs.Names.{found, not_found, passed_by}
use Rattle.names.proofs.table.find_name.Goals as goal

pub returns-then-is_name : goal.returns-then-is_name
returns-then-is_name c = search found

pub loop-place-preserved : goal.loop-place-preserved
loop-place-preserved c = search passed_by

pub returns : goal.returns
returns c = search not_found

use Rattle.names.proofs.EarlierRows.{last_of_parts}
use Rattle.names.proofs.earlier.last_of_all.Goals as goal

pub returns : goal.returns
returns c = search last_of_parts

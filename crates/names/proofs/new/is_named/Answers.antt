use Rattle.names.proofs.NewNameTested.{in_rows}
use Rattle.names.proofs.new.is_named.Goals as goal

pub returns : goal.returns
returns c = search in_rows

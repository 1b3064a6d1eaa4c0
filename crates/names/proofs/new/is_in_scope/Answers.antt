use Rattle.names.proofs.NewNameTested.{in_scope}
use Rattle.names.proofs.new.is_in_scope.Goals as goal

pub returns : goal.returns
returns c = search in_scope

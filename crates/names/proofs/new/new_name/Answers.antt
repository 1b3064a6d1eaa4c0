use Rattle.names.proofs.NewNameTested.{name_at_fault, name_right}
use Rattle.names.proofs.new.new_name.Goals as goal

pub returns-then-reserved-taken : goal.returns-then-reserved-taken
returns-then-reserved-taken c = search name_at_fault

pub returns : goal.returns
returns c = search name_right

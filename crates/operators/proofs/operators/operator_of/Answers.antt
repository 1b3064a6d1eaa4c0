use Rattle.operators.proofs.Naming.{operator_found}
use Rattle.operators.proofs.operators.operator_of.Goals as goal

pub returns : goal.returns
returns c = operator_found c.requires _ c.find_word.ensures

use Rattle.std.proofs.Common.{refl}
use Rattle.operators.specs.Operators.{operators}
use Rattle.operators.proofs.operators.operator_names.Goals as goal

pub returns : goal.returns
unfolding operators
returns c = refl

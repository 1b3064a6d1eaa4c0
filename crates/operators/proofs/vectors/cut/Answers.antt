use Rattle.operators.proofs.Powers.{masked}
use Rattle.operators.proofs.vectors.cut.Goals as goal

pub returns : goal.returns
returns c = search masked

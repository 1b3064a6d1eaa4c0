use Rattle.operators.proofs.Powers.{ones_law}
use Rattle.operators.proofs.vectors.ones.Goals as goal

pub returns : goal.returns
returns c = search ones_law

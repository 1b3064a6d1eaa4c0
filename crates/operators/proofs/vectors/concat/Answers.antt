use Rattle.operators.proofs.Powers.{joined}
use Rattle.operators.proofs.vectors.concat.Goals as goal

pub returns : goal.returns
returns c = search joined

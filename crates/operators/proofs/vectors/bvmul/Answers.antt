use Rattle.operators.proofs.Powers.{cut_again}
use Rattle.operators.proofs.vectors.bvmul.Goals as goal

pub returns : goal.returns
returns c = search cut_again

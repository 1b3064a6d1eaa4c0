use Rattle.words.specs.Reading.{fault_at}
use Rattle.words.proofs.scan.fault_at.Goals as goal

pub returns : goal.returns
unfolding fault_at
returns c = cc

use Rattle.following.specs.code.Steps.{usable}
use Rattle.following.proofs.usable.Goals as goal

pub returns : goal.returns
unfolding usable
returns c = cc

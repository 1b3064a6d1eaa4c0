use Rattle.accepting.proofs.Blanking.{blank_is}
use Rattle.accepting.proofs.area.no_lists.Goals as goal

pub returns : goal.returns
returns c = blank_is

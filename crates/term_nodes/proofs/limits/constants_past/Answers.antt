use Rattle.term_nodes.proofs.ConstantLimits.{look_begins, look_ends, look_goes}
use Rattle.term_nodes.proofs.limits.constants_past.Goals as goal

pub loop-node-init : goal.loop-node-init
loop-node-init c = search look_begins

pub loop-node-preserved : goal.loop-node-preserved
loop-node-preserved c = search look_goes

pub returns : goal.returns
returns c = search look_ends

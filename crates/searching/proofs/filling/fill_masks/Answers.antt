use mathlib.Core.Path.{refl}
use Rattle.searching.proofs.Members.{blank_row}
use Rattle.searching.proofs.Sweep.{inv_start, asks_here, inv_step}
use Rattle.searching.proofs.filling.fill_masks.Goals as goal

pub loop-node-init : goal.loop-node-init
loop-node-init c = inv_start c.requires refl

pub derivers-mask-requires : goal.derivers-mask-requires
derivers-mask-requires c = (search asks_here, blank_row)

pub loop-node-preserved : goal.loop-node-preserved
loop-node-preserved c =
    inv_step c.loop-node.invariant c.loop-node-test.true c.derivers-mask.ensures c.copy.ensures c.copy-in-loop-node.ensures

use Rattle.blocks.proofs.Putting.{zeros_end, zeros_fit, zeros_on, zeros_start}
use Rattle.blocks.proofs.writing.put_zeros.Goals as goal

pub loop-init : goal.loop-init
loop-init c = zeros_start c.requires

pub put-place-requires : goal.put-place-requires
put-place-requires c = zeros_fit c.loop.invariant c.loop-test.true

pub loop-preserved : goal.loop-preserved
loop-preserved c = zeros_on c.loop.invariant c.loop-test.true c.put-place.ensures

pub returns : goal.returns
returns c = search zeros_end

use Rattle.blocks.proofs.Putting.{bytes_end, bytes_fit, bytes_on, bytes_start}
use Rattle.blocks.proofs.writing.put_bytes.Goals as goal

pub loop-byte-init : goal.loop-byte-init
loop-byte-init c = bytes_start c.requires

pub put-place-requires : goal.put-place-requires
put-place-requires c = bytes_fit c.loop-byte.invariant c.loop-byte-test.true

pub loop-byte-preserved : goal.loop-byte-preserved
loop-byte-preserved c = bytes_on c.loop-byte.invariant c.loop-byte-test.true c.put-place.ensures

pub shape_of-area : goal.shape_of-area
shape_of-area c = c.loop-byte.invariant.going.long

pub returns : goal.returns
returns c = search bytes_end

use Rattle.blocks.proofs.Putting.{lengths_end, lengths_fit, lengths_on, lengths_start}
use native.Mathlib.Omega.{arith}
use Rattle.blocks.proofs.writing.put_lengths.Goals as goal

pub loop-function-init : goal.loop-function-init
loop-function-init c = lengths_start c.requires.fitting

pub put_number-place-requires : goal.put_number-place-requires
put_number-place-requires c = record { size_low = omega arith; fitting = lengths_fit c.loop-function.invariant c.loop-function-test.true c.list_shown.ensures }

pub loop-function-preserved : goal.loop-function-preserved
loop-function-preserved c = lengths_on c.loop-function.invariant c.loop-function-test.true c.list_shown.ensures c.put_number-place.ensures

pub shape_of-area : goal.shape_of-area
shape_of-area c = c.loop-function.invariant.going.long

pub returns : goal.returns
returns c = search lengths_end

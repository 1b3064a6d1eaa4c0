use Rattle.blocks.proofs.Putting.{lists_end, lists_fit, lists_on, lists_start}
use Rattle.blocks.proofs.writing.put_lists.Goals as goal

pub loop-function-init : goal.loop-function-init
loop-function-init c = lists_start c.requires.fitting

pub put_rules-place-requires : goal.put_rules-place-requires
put_rules-place-requires c = lists_fit c.loop-function.invariant c.loop-function-test.true c.list_shown.ensures

pub loop-function-preserved : goal.loop-function-preserved
loop-function-preserved c = lists_on c.loop-function.invariant c.loop-function-test.true c.list_shown.ensures c.put_rules-place.ensures

pub shape_of-area : goal.shape_of-area
shape_of-area c = c.loop-function.invariant.going.long

pub returns : goal.returns
returns c = search lists_end

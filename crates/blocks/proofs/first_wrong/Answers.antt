use Rattle.blocks.proofs.Search.{search_end, search_found, search_more, search_start}
use Rattle.blocks.proofs.first_wrong.Goals as goal

pub loop-block-init : goal.loop-block-init
loop-block-init c = search_start

pub returns-then-not-right_block : goal.returns-then-not-right_block
returns-then-not-right_block c = search_found c.blocks_in-block-end.ensures c.loop-block.invariant c.loop-block-test.true c.right_block.ensures c.if-not-right_block.true

pub loop-block-preserved : goal.loop-block-preserved
loop-block-preserved c = search_more c.blocks_in-block-end.ensures c.loop-block.invariant c.loop-block-test.true c.right_block.ensures c.if-not-right_block.false

pub returns : goal.returns
returns c = search_end c.blocks_in-block-end.ensures c.loop-block.invariant c.loop-block-test.false

use Rattle.term_nodes.proofs.Counting.{sweep_asks, sweep_begins, sweep_ends, sweep_goes, sweep_less}
use Rattle.term_nodes.proofs.sizes.count_nodes.Goals as goal

pub loop-node-init : goal.loop-node-init
loop-node-init c = search sweep_begins

pub past_tree-requires : goal.past_tree-requires
past_tree-requires c = search sweep_asks

pub overflow_sub-raw : goal.overflow_sub-raw
overflow_sub-raw c = search sweep_less

pub loop-node-preserved : goal.loop-node-preserved
loop-node-preserved c = search sweep_goes

pub returns : goal.returns
returns c = search sweep_ends

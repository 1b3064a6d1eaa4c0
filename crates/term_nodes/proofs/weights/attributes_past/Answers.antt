use Rattle.term_nodes.proofs.RuleWeights.{weigh_end, weigh_item, weigh_less, weigh_start, weigh_turn}
use Rattle.term_nodes.proofs.weights.attributes_past.Goals as goal

pub loop-at-init : goal.loop-at-init
loop-at-init c = search weigh_start

pub attribute_past-requires : goal.attribute_past-requires
attribute_past-requires c = search weigh_item

pub loop-at-smaller : goal.loop-at-smaller
loop-at-smaller c = search weigh_less

pub loop-at-preserved : goal.loop-at-preserved
loop-at-preserved c = search weigh_turn

pub returns : goal.returns
returns c = search weigh_end

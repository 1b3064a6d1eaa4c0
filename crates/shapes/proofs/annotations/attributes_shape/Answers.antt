use Rattle.shapes.proofs.Annotated.{attributes_end, attributes_less, attributes_miss, attributes_start, attributes_turn}
use Rattle.shapes.proofs.annotations.attributes_shape.Goals as goal

pub loop-at-init : goal.loop-at-init
loop-at-init c = search attributes_start

pub returns-then-not-named-code : goal.returns-then-not-named-code
returns-then-not-named-code c = search attributes_miss

pub loop-at-smaller : goal.loop-at-smaller
loop-at-smaller c = search attributes_less

pub loop-at-preserved : goal.loop-at-preserved
loop-at-preserved c = search attributes_turn

pub returns : goal.returns
returns c = search attributes_end

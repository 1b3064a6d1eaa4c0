use Rattle.shapes.proofs.Every.{every_end, every_item, every_less, every_miss, every_start, every_turn}
use Rattle.shapes.proofs.grammars.all_groups.Goals as goal

pub loop-at-init : goal.loop-at-init
loop-at-init c = search every_start

pub group_shape-requires : goal.group_shape-requires
group_shape-requires c = search every_item

pub returns-then-not-group_shape : goal.returns-then-not-group_shape
returns-then-not-group_shape c = search every_miss

pub loop-at-smaller : goal.loop-at-smaller
loop-at-smaller c = search every_less

pub loop-at-preserved : goal.loop-at-preserved
loop-at-preserved c = search every_turn

pub returns : goal.returns
returns c = search every_end

use Rattle.shapes.proofs.AnyOf.{any_end, any_found, any-item, any_less, any_start, any_turn}
use Rattle.shapes.proofs.whole_rules.groups_uncarried.Goals as goal

pub loop-at-init : goal.loop-at-init
loop-at-init c = search any_start

pub group_uncarried-requires : goal.group_uncarried-requires
group_uncarried-requires c = search any-item

pub returns-then-group_uncarried : goal.returns-then-group_uncarried
returns-then-group_uncarried c = search any_found

pub loop-at-smaller : goal.loop-at-smaller
loop-at-smaller c = search any_less

pub loop-at-preserved : goal.loop-at-preserved
loop-at-preserved c = search any_turn

pub returns : goal.returns
returns c = search any_end

use native.Mathlib.Omega.{arith}
use Rattle.lexemes.proofs.Along.{along_less, along_room}
use Rattle.term_nodes.proofs.Onward.{raw_kept, rules_kept}
use Rattle.term_nodes.proofs.GroupLoop.{group_next, groups_end, groups_start, groups_turn, heads_few, list_closes, list_room}
use Rattle.term_nodes.proofs.rules.gather_rules.Goals as goal

pub loop-at-init : goal.loop-at-init
loop-at-init c = (search groups_start, omega arith)

pub overflow_add-at : goal.overflow_add-at
overflow_add-at c = omega (arith, along_room c.loop-at.invariant.0 c.loop-at-test.true)

pub overflow_add-list : goal.overflow_add-list
overflow_add-list c = omega (arith, list_room c.loop-at.invariant.0 c.loop-at-test.true c.next_at-list.ensures)

pub overflow_sub-next_at : goal.overflow_sub-next_at
overflow_sub-next_at c = search list_closes

pub gather_group-found-requires : goal.gather_group-found-requires
gather_group-found-requires c = search group_next

pub overflow_add-head : goal.overflow_add-head
overflow_add-head c = omega arith

pub loop-at-smaller : goal.loop-at-smaller
loop-at-smaller c = search along_less

pub loop-at-preserved : goal.loop-at-preserved
loop-at-preserved c = (search groups_turn, search heads_few)

pub shape_of-raw : goal.shape_of-raw
shape_of-raw c = raw_kept c.loop-at.invariant.0

pub shape_of-rules : goal.shape_of-rules
shape_of-rules c = rules_kept c.loop-at.invariant.0

pub returns : goal.returns
returns c = search groups_end

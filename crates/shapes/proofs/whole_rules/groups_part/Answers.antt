use Rattle.shapes.proofs.WholeRules.{before_last, last_list, last_made}
use Rattle.lexemes.proofs.Listed.{as_item, between, item_ahead, list_room}
use Rattle.shapes.specs.Carried.{group_uncarried}
use native.Mathlib.Omega.{arith}
use Rattle.shapes.proofs.whole_rules.groups_part.Goals as goal

pub overflow_add-at : goal.overflow_add-at
overflow_add-at c = omega (arith, list_room c.requires.here)

pub overflow_sub-next_at : goal.overflow_sub-next_at
overflow_sub-next_at c = omega (arith, item_ahead (as_item c.requires.here) c.next_at.ensures)

pub item_at-last-requires : goal.item_at-last-requires
item_at-last-requires c = between c.requires.here c.next_at.ensures

pub overflow_add-at-2 : goal.overflow_add-at-2
overflow_add-at-2 c = omega (arith, list_room c.requires.here)

pub any_uncarried-requires : goal.any_uncarried-requires
any_uncarried-requires c = before_last c.requires c.next_at.ensures c.item_at-last.ensures c.requires.here

pub uncarried_start-requires : goal.uncarried_start-requires
uncarried_start-requires c = last_list c.requires c.next_at.ensures c.item_at-last.ensures c.requires.here

pub overflow_add-last : goal.overflow_add-last
overflow_add-last c = omega (arith, list_room (last_list c.requires c.next_at.ensures c.item_at-last.ensures c.requires.here))

pub overflow_sub-next_at-2 : goal.overflow_sub-next_at-2
overflow_sub-next_at-2 c = omega (arith, item_ahead (as_item (last_list c.requires c.next_at.ensures c.item_at-last.ensures c.requires.here)) c.next_at-2.ensures)

pub groups_uncarried-requires : goal.groups_uncarried-requires
groups_uncarried-requires c = between (last_list c.requires c.next_at.ensures c.item_at-last.ensures c.requires.here) c.next_at-2.ensures

pub returns : goal.returns
returns c = last_made c.requires c.next_at.ensures c.item_at-last.ensures group_uncarried c.any_uncarried.ensures c.uncarried_start.ensures c.next_at-2.ensures c.groups_uncarried.ensures

use Rattle.shapes.proofs.ListItems.{counted}
use Rattle.lexemes.proofs.Listed.{as_item, between, item_ahead, list_room}
use native.Mathlib.Omega.{arith}
use Rattle.shapes.proofs.lists.count_in.Goals as goal

pub overflow_add-list : goal.overflow_add-list
overflow_add-list c = omega (arith, list_room c.requires)

pub overflow_sub-next_at : goal.overflow_sub-next_at
overflow_sub-next_at c = omega (arith, item_ahead (as_item c.requires) c.next_at.ensures)

pub count_items-requires : goal.count_items-requires
count_items-requires c = between c.requires c.next_at.ensures

pub returns : goal.returns
returns c = search counted

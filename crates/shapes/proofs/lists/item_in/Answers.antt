use Rattle.shapes.proofs.ListItems.{item_found, room_of}
use Rattle.lexemes.proofs.Listed.{as_item, between, item_ahead}
use native.Mathlib.Omega.{arith}
use Rattle.shapes.proofs.lists.item_in.Goals as goal

pub overflow_add-list : goal.overflow_add-list
overflow_add-list c = omega (arith, room_of c.requires)

pub overflow_sub-next_at : goal.overflow_sub-next_at
overflow_sub-next_at c = omega (arith, item_ahead (as_item c.requires.here) c.next_at.ensures)

pub item_at-requires : goal.item_at-requires
item_at-requires c = between c.requires.here c.next_at.ensures

pub returns : goal.returns
returns c = search item_found

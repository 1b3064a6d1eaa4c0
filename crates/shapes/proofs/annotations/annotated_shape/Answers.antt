use Rattle.shapes.proofs.Annotated.{annotated_made, annotated_short, attributes_there}
use Rattle.shapes.proofs.ListItems.{long, the_item}
use Rattle.lexemes.proofs.Listed.{as_item, between, item_ahead, list_room}
use native.Mathlib.Omega.{arith}
use Rattle.shapes.proofs.annotations.annotated_shape.Goals as goal

pub returns-then-count_in-lt4 : goal.returns-then-count_in-lt4
returns-then-count_in-lt4 c = search annotated_short

pub overflow_sub-close : goal.overflow_sub-close
overflow_sub-close c = omega (arith, item_ahead (as_item c.requires) c.next_at-close.ensures)

pub overflow_add-at : goal.overflow_add-at
overflow_add-at c = omega (arith, list_room c.requires)

pub item_at-first-requires : goal.item_at-first-requires
item_at-first-requires c = between c.requires c.next_at-close.ensures

pub item_in-requires : goal.item_in-requires
item_in-requires c = long c.requires c.count_in.ensures (omega arith)

pub term_shape-requires : goal.term_shape-requires
term_shape-requires c = the_item c.item_in.ensures c.requires

pub attributes_shape-requires : goal.attributes_shape-requires
attributes_shape-requires c = attributes_there c.next_at-close.ensures c.item_at-first.ensures c.requires

pub returns : goal.returns
returns c = annotated_made c.count_in.ensures c.if-count_in-lt4.false c.next_at-close.ensures c.item_at-first.ensures c.item_in.ensures c.term_shape.ensures c.attributes_shape.ensures

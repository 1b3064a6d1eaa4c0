use Rattle.shapes.proofs.ListItems.{long, not_so_many, the_item}
use Rattle.shapes.proofs.Shaped.{constraint_made}
use native.Mathlib.Omega.{arith}
use Rattle.shapes.proofs.forms.constraint_shape.Goals as goal

pub returns-then-count_in-ne2 : goal.returns-then-count_in-ne2
returns-then-count_in-ne2 c = λ here. rw (not_so_many c.count_in.ensures c.if-count_in-ne2.true here)

pub item_in-requires : goal.item_in-requires
item_in-requires c = long c.requires c.count_in.ensures (omega arith)

pub term_shape-requires : goal.term_shape-requires
term_shape-requires c = the_item c.item_in.ensures c.requires

pub returns : goal.returns
returns c =
    constraint_made c.count_in.ensures c.if-count_in-ne2.false c.item_in.ensures
    c.term_shape.ensures

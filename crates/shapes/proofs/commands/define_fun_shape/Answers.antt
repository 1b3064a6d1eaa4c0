use Rattle.shapes.proofs.ListItems.{long, not_so_many, the_item}
use Rattle.shapes.proofs.Shaped.{define_fun_made}
use native.Mathlib.Omega.{arith}
use Rattle.shapes.proofs.commands.define_fun_shape.Goals as goal

pub returns-then-count_in-ne5 : goal.returns-then-count_in-ne5
returns-then-count_in-ne5 c = λ here. rw (not_so_many c.count_in.ensures c.if-count_in-ne5.true here)

pub header_shape-requires : goal.header_shape-requires
header_shape-requires c = long c.requires c.count_in.ensures (omega arith)

pub item_in-requires : goal.item_in-requires
item_in-requires c = long c.requires c.count_in.ensures (omega arith)

pub term_shape-requires : goal.term_shape-requires
term_shape-requires c = the_item c.item_in.ensures c.requires

pub returns : goal.returns
returns c =
    define_fun_made c.count_in.ensures c.if-count_in-ne5.false
    c.header_shape.ensures c.item_in.ensures c.term_shape.ensures

use Rattle.shapes.proofs.ListItems.{long, not_so_many, the_item}
use Rattle.shapes.proofs.Shaped.{synth_fun_made}
use native.Mathlib.Omega.{arith}
use Rattle.shapes.proofs.forms.synth_fun_shape.Goals as goal

pub returns-then-count_in-ne6 : goal.returns-then-count_in-ne6
returns-then-count_in-ne6 c = λ here. rw (not_so_many c.count_in.ensures c.if-count_in-ne6.true here)

pub header_shape-requires : goal.header_shape-requires
header_shape-requires c = long c.requires c.count_in.ensures (omega arith)

pub item_in-requires : goal.item_in-requires
item_in-requires c = long c.requires c.count_in.ensures (omega arith)

pub pairs_shape-requires : goal.pairs_shape-requires
pairs_shape-requires c = the_item c.item_in.ensures c.requires

pub item_in-requires-2 : goal.item_in-requires-2
item_in-requires-2 c =
    long c.requires c.count_in.ensures
    (omega arith)

pub groups_shape-requires : goal.groups_shape-requires
groups_shape-requires c = the_item c.item_in-2.ensures c.requires

pub returns : goal.returns
returns c =
    synth_fun_made c.count_in.ensures
    c.if-count_in-ne6.false c.header_shape.ensures
    c.item_in.ensures c.pairs_shape.ensures c.item_in-2.ensures
    c.groups_shape.ensures

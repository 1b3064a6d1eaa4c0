use Rattle.shapes.proofs.ListItems.{long, not_so_many, the_item}
use Rattle.shapes.proofs.Shaped.{declare_var_made}
use native.Mathlib.Omega.{arith}
use Rattle.shapes.proofs.forms.declare_var_shape.Goals as goal

pub returns-then-count_in-ne3 : goal.returns-then-count_in-ne3
returns-then-count_in-ne3 c = λ here. rw (not_so_many c.count_in.ensures c.if-count_in-ne3.true here)

pub symbol_in-requires : goal.symbol_in-requires
symbol_in-requires c = long c.requires c.count_in.ensures (omega arith)

pub item_in-requires : goal.item_in-requires
item_in-requires c = long c.requires c.count_in.ensures (omega arith)

pub sort_shape-requires : goal.sort_shape-requires
sort_shape-requires c = the_item c.item_in.ensures c.requires

pub returns : goal.returns
returns c =
    declare_var_made c.count_in.ensures c.if-count_in-ne3.false
    c.symbol_in.ensures c.item_in.ensures c.sort_shape.ensures

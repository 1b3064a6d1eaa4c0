use Rattle.shapes.proofs.Shaped.{header_made}
use Rattle.shapes.proofs.ListItems.{shorter, the_item}
use native.Mathlib.Omega.{arith}
use Rattle.shapes.proofs.forms.header_shape.Goals as goal

pub symbol_in-requires : goal.symbol_in-requires
symbol_in-requires c = shorter c.requires (omega arith)

pub item_in-requires : goal.item_in-requires
item_in-requires c = shorter c.requires (omega arith)

pub pairs_shape-requires : goal.pairs_shape-requires
pairs_shape-requires c = the_item c.item_in.ensures c.requires.here

pub sort_shape-requires : goal.sort_shape-requires
sort_shape-requires c = the_item c.item_in-2.ensures c.requires.here

pub returns : goal.returns
returns c =
    header_made c.symbol_in.ensures c.item_in.ensures
    c.pairs_shape.ensures c.item_in-2.ensures c.sort_shape.ensures

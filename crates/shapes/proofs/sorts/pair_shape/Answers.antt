use Rattle.lexemes.proofs.Listed.{as_list, no_list}
use Rattle.shapes.proofs.Shaped.{not_listed, pair_made}
use Rattle.shapes.proofs.ListItems.{long, the_item}
use native.Mathlib.Omega.{arith}
use Rattle.shapes.proofs.sorts.pair_shape.Goals as goal

pub returns-then-code_at-ne-OPEN : goal.returns-then-code_at-ne-OPEN
returns-then-code_at-ne-OPEN c = λ here. rw (no_list c.code_at.ensures c.if-code_at-ne-OPEN.true here)

pub count_in-requires : goal.count_in-requires
count_in-requires c = search as_list

pub returns-then-count_in-ne2 : goal.returns-then-count_in-ne2
returns-then-count_in-ne2 c =
    λ here. rw
    (not_listed c.code_at.ensures c.if-code_at-ne-OPEN.false c.count_in.ensures c.if-count_in-ne2.true here)

pub symbol_in-requires : goal.symbol_in-requires
symbol_in-requires c = long (search as_list) c.count_in.ensures (omega arith)

pub item_in-requires : goal.item_in-requires
item_in-requires c = long (search as_list) c.count_in.ensures (omega arith)

pub sort_shape-requires : goal.sort_shape-requires
sort_shape-requires c = the_item c.item_in.ensures (search as_list)

pub returns : goal.returns
returns c =
    pair_made c.code_at.ensures
    c.if-code_at-ne-OPEN.false c.count_in.ensures
    c.if-count_in-ne2.false c.symbol_in.ensures c.item_in.ensures
    c.sort_shape.ensures

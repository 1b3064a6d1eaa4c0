use mathlib.Core.Bool.{not}
use mathlib.Core.Path.{ap}
use Rattle.shapes.proofs.Shaped.{pattern_list, pattern_made, pattern_miss, term_made}
use Rattle.shapes.proofs.ListItems.{long, the_item}
use native.Mathlib.Omega.{arith}
use Rattle.shapes.proofs.grammars.rule_shape.Goals as goal

pub returns-then-not-is_pattern : goal.returns-then-not-is_pattern
returns-then-not-is_pattern c = term_made c.is_pattern.ensures (ap not c.if-not-is_pattern.true) c.term_rule_shape.ensures

pub count_in-requires : goal.count_in-requires
count_in-requires c = search pattern_list

pub returns-then-count_in-ne2 : goal.returns-then-count_in-ne2
returns-then-count_in-ne2 c =
    pattern_miss c.is_pattern.ensures (ap not c.if-not-is_pattern.false) c.count_in.ensures
    c.if-count_in-ne2.true

pub item_in-requires : goal.item_in-requires
item_in-requires c = long (search pattern_list) c.count_in.ensures (omega arith)

pub sort_shape-requires : goal.sort_shape-requires
sort_shape-requires c = the_item c.item_in.ensures (search pattern_list)

pub returns : goal.returns
returns c =
    pattern_made c.is_pattern.ensures (ap not c.if-not-is_pattern.false)
    c.count_in.ensures c.if-count_in-ne2.false c.item_in.ensures
    c.sort_shape.ensures

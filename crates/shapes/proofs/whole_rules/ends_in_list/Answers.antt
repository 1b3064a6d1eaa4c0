use Rattle.shapes.proofs.WholeRules.{ends_made, ends_not}
use Rattle.shapes.proofs.ListItems.{long}
use native.Mathlib.Omega.{arith}
use Rattle.shapes.proofs.whole_rules.ends_in_list.Goals as goal

pub count_in-requires : goal.count_in-requires
count_in-requires c = c.requires.0

pub overflow_add-n : goal.overflow_add-n
overflow_add-n c = omega arith

pub returns-then-count_in-n : goal.returns-then-count_in-n
returns-then-count_in-n c = ends_not c.count_in.ensures _ c.if-count_in-n.true

pub item_in-requires : goal.item_in-requires
item_in-requires c = long c.requires.0 c.count_in.ensures (omega arith)

pub returns : goal.returns
returns c = ends_made c.count_in.ensures _ c.if-count_in-n.false c.item_in.ensures c.code_at.ensures

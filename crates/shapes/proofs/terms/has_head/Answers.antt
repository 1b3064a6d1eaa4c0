use Rattle.shapes.proofs.TestsByCode.{application_test, short_test}
use Rattle.shapes.proofs.ListItems.{long, the_item}
use native.Mathlib.Omega.{arith}
use Rattle.shapes.proofs.terms.has_head.Goals as goal

pub returns-then-count_in-lt2 : goal.returns-then-count_in-lt2
returns-then-count_in-lt2 c = search short_test

pub item_in-head-requires : goal.item_in-head-requires
item_in-head-requires c = long c.requires c.count_in.ensures (omega arith)

pub head_shape-requires : goal.head_shape-requires
head_shape-requires c = the_item c.item_in-head.ensures c.requires

pub returns : goal.returns
returns c = search application_test

use Rattle.shapes.proofs.FeatureTests.{feature_made}
use Rattle.shapes.proofs.ListItems.{long, not_so_many}
use native.Mathlib.Omega.{arith}
use Rattle.shapes.proofs.features.set_feature_shape.Goals as goal

pub returns-then-count_in-ne3 : goal.returns-then-count_in-ne3
returns-then-count_in-ne3 c = λ here. rw (not_so_many c.count_in.ensures c.if-count_in-ne3.true here)

pub item_in-requires : goal.item_in-requires
item_in-requires c = long c.requires c.count_in.ensures (omega arith)

pub item_in-requires-2 : goal.item_in-requires-2
item_in-requires-2 c = long c.requires c.count_in.ensures (omega arith)

pub returns : goal.returns
returns c = search feature_made

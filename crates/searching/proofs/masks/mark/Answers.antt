use Rattle.forest.proofs.Rows.{past}
use Rattle.forest.specs.code.Rows.{number_at}
use native.Mathlib.Omega.{arith}
use Rattle.searching.proofs.masks.mark.Goals as goal

pub returns-then-node-masks : goal.returns-then-node-masks
returns-then-node-masks c = past _ _ _ _ (omega arith)

pub returns : goal.returns
unfolding number_at
returns c = c.entry_at.ensures

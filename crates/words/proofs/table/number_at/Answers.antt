use Rattle.std.proofs.Common.{rules}
use native.Mathlib.Omega.{arith}
use Rattle.forest.specs.code.Rows.{number_at}
use Rattle.forest.proofs.Rows.{past}
use Rattle.words.proofs.table.number_at.Goals as goal

pub returns-then-word-table : goal.returns-then-word-table
returns-then-word-table c = past _ _ _ _ (omega arith)

pub returns : goal.returns
unfolding number_at
returns c = search rules

use Prim.Native.Nat.{◌*◌}
use Rattle.term_nodes.specs.code.Table.{row_width}
use Rattle.term_nodes.proofs.NodeRows.{row_written}
use lib.ListN.{length-set}
use native.Mathlib.Omega.{arith}
use Rattle.term_nodes.proofs.gather.put_node.Goals as goal

pub bounds-raw-row-2 : goal.bounds-raw-row-2
bounds-raw-row-2 c = simp length-set (omega arith)

pub bounds-raw-row-3 : goal.bounds-raw-row-3
bounds-raw-row-3 c = simp length-set (omega arith)

pub bounds-raw-row-4 : goal.bounds-raw-row-4
bounds-raw-row-4 c = simp length-set (omega arith)

pub returns : goal.returns
returns c = row_written c.args.raw.now (row_width * c.args.node) _ _ _ _

use Prim.Native.Nat.{◌*◌}
use Rattle.terms.specs.code.Nodes.{row_width}
use Rattle.script.proofs.TableParts.{part_whole}
use Rattle.one_function.proofs.rows_from.Goals as goal

pub returns : goal.returns
returns c = let a = c.args in part_whole (row_width * a.first) (row_width * a.count) a.nodes.now

use Rattle.blocks.proofs.Adding.{block_told, cut_short}
use mathlib.Core.Path.{refl}
use Prim.Native.Nat.{◌+◌, ◌*◌}
use native.Mathlib.Omega.{arith}
use Rattle.blocks.proofs.right_block.Goals as goal

pub returns-then-block-file : goal.returns-then-block-file
returns-then-block-file c = cut_short c.args.file.now c.args.block c.if-block-file.true

pub returns : goal.returns
returns c = block_told c.args.file.now c.args.block (omega arith) c.sum_at-sum.ensures refl refl (let byte = c.type_inv.file (512 * c.args.block + 510) in omega arith) (omega (arith, c.from.ensures, c.from_le_bytes-held.ensures))

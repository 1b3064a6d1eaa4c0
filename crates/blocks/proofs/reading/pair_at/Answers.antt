use native.Mathlib.Omega.{arith}
use Rattle.blocks.specs.Blocks.{payload_in}
use Rattle.blocks.proofs.Lengths.{pair_is}
use Rattle.blocks.proofs.reading.pair_at.Goals as goal

pub returns : goal.returns
returns c = omega (arith, c.from_le_bytes.ensures, c.pay_at.ensures, c.pay_at-2.ensures, pair_is (payload_in c.args.file.now) c.args.place)

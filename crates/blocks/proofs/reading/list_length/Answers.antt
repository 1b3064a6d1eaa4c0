use native.Mathlib.Omega.{arith}
use Rattle.blocks.specs.Layout.{list_length_in}
use Rattle.blocks.proofs.reading.list_length.Goals as goal

pub returns : goal.returns
unfolding list_length_in
returns c = record { is = omega (arith, c.from.ensures, c.pair_at.ensures); low = omega (arith, c.from.ensures) }

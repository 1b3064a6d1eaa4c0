use native.Mathlib.Omega.{arith}
use Rattle.blocks.specs.Layout.{script_length_in}
use Rattle.blocks.proofs.reading.script_length.Goals as goal

pub returns : goal.returns
unfolding script_length_in
returns c = record { is = c.four_at.ensures; low = omega arith }

use mathlib.Core.Path.{refl}
use Rattle.bodies.specs.code.Bodies.{no_sorts}
use Rattle.bodies.proofs.read.no_sorts.Goals as goal

pub returns : goal.returns
unfolding no_sorts
returns c = refl

use native.Mathlib.Omega.{arith}
use Rattle.evaluation.proofs.PointLists.{none_outside, outside_here, outside_later}
use Rattle.evaluation.proofs.points.first_outside.Goals as goal

pub returns-then-not-fits : goal.returns-then-not-fits
returns-then-not-fits c = (omega arith, search outside_here)

pub loop-i-preserved : goal.loop-i-preserved
loop-i-preserved c = search outside_later

pub returns : goal.returns
returns c = search none_outside

use mathlib.Core.Path.{sym}
use lib.Seq.{length-take-le}
use native.Mathlib.Omega.{arith}
use Rattle.test_vectors.proofs.answers.area_size.Goals as goal

pub returns : goal.returns
returns c = (omega arith, sym (length-take-le _ _ (omega arith)))

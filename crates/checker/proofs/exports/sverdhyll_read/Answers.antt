use Rattle.outcome.proofs.Texts.{told_small}
use native.Mathlib.Omega.{arith}
use Rattle.checker.proofs.exports.sverdhyll_read.Goals as goal

pub overflow_cast-result : goal.overflow_cast-result
overflow_cast-result c = omega (arith, told_small c.read-told.ensures.told)

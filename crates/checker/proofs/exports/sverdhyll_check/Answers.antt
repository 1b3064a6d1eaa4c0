use native.Mathlib.Omega.{arith}
use Rattle.outcome.proofs.Small.{numbers_small}
use Rattle.checker.proofs.exports.sverdhyll_check.Goals as goal

pub overflow_cast-text : goal.overflow_cast-text
overflow_cast-text c = omega (arith, numbers_small c.check-outcome.ensures.checked)

pub overflow_cast-result : goal.overflow_cast-result
overflow_cast-result c = omega (arith, numbers_small c.check-outcome.ensures.checked)

use Rattle.outcome.proofs.Small.{numbers_small}
use native.Mathlib.Omega.{arith}
use Rattle.checker.proofs.exports.sverdhyll_answer.Goals as goal

pub overflow_cast-result : goal.overflow_cast-result
overflow_cast-result c = omega (arith, numbers_small c.answer-found.ensures.checked)

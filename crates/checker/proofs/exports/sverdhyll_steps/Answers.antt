use native.Mathlib.Omega.{arith}
use Rattle.outcome.proofs.StepsOnce.{list_number}
use Rattle.checker.proofs.exports.sverdhyll_steps.Goals as goal

pub overflow_cast-result : goal.overflow_cast-result
overflow_cast-result c = omega (arith, list_number c.step_list-listed.ensures)

use native.Mathlib.Omega.{arith}
use Rattle.checker.proofs.FileNumbers.{filed_small}
use Rattle.checker.proofs.exports.sverdhyll_write_evidence.Goals as goal

pub overflow_cast-result : goal.overflow_cast-result
overflow_cast-result c = omega (arith, filed_small c.write_evidence-written.ensures)

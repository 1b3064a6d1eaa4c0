use native.Mathlib.Omega.{arith}
use Rattle.evidence.proofs.Once.{audit_number, small_number}
use Rattle.auditing.proofs.sverdhyll_check_evidence.Goals as goal

pub overflow_cast-result : goal.overflow_cast-result
overflow_cast-result c = omega (arith, small_number (audit_number c.check_evidence-found.ensures.audited))

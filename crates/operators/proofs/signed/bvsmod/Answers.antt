use Rattle.operators.proofs.Magnitudes.{divisor_added, modulus_kept}
use Rattle.operators.proofs.signed.bvsmod.Goals as goal

pub returns-then-rest-signs_differ : goal.returns-then-rest-signs_differ
returns-then-rest-signs_differ c = search divisor_added

pub returns : goal.returns
returns c = search modulus_kept

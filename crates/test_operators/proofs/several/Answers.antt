use Rattle.test_operators.proofs.WideTaken.{several_taken}
use Rattle.test_operators.proofs.several.Goals as goal

pub apply-requires : goal.apply-requires
apply-requires c = search several_taken

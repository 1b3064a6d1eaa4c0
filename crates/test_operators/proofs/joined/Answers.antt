use Rattle.test_operators.proofs.Taken.{joined_taken}
use Rattle.test_operators.proofs.joined.Goals as goal

pub apply-requires : goal.apply-requires
apply-requires c = search joined_taken

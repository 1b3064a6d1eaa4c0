use Rattle.test_operators.proofs.Taken.{alike_taken}
use Rattle.test_operators.proofs.alike.Goals as goal

pub apply-requires : goal.apply-requires
apply-requires c = alike_taken c.requires c.operands_of-count.ensures c.second.ensures

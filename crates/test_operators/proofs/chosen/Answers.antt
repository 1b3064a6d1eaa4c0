use Rattle.test_operators.proofs.Taken.{choice_taken}
use Rattle.test_operators.proofs.chosen.Goals as goal

pub apply-requires : goal.apply-requires
apply-requires c = choice_taken c.requires.0 c.requires.1 c.requires.2 c.requires.3

use Rattle.test_operators.proofs.WideTaken.{wide_equality, wide_logic}
use Rattle.test_operators.proofs.sort_of.Goals as goal

pub returns-in-Logic : goal.returns-in-Logic
returns-in-Logic c = wide_logic c.requires.0 c.requires.1 c.in-Logic.ensures

pub returns-in_default : goal.returns-in_default
returns-in_default c = search wide_equality

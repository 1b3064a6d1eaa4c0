use Rattle.checker.proofs.StepsAnswer.{wrong_size}
use Rattle.checker.proofs.stepping.step_list.Goals as goal

pub returns-then-area-ne-NUMBERS : goal.returns-then-area-ne-NUMBERS
returns-then-area-ne-NUMBERS c = wrong_size c.if-area-ne-NUMBERS.true c.refused.ensures

use Rattle.checker.proofs.StepsAnswer.{refused_is}
use Rattle.checker.proofs.stepping.refused.Goals as goal

pub returns : goal.returns
returns c = search refused_is

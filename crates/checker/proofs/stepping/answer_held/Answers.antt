use Rattle.checker.proofs.StepsAnswer.{answered_from, judgeable}
use Rattle.checker.proofs.stepping.answer_held.Goals as goal

pub judge_points-found-requires : goal.judge_points-found-requires
judge_points-found-requires c = search judgeable

pub returns : goal.returns
returns c = search answered_from

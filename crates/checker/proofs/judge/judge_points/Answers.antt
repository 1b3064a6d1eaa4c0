use Rattle.checker.proofs.Judgements.{judge_16, judge_run, judge_stays, to_evaluate}
use Rattle.checker.proofs.judge.judge_points.Goals as goal

pub returns-then-weighed-ne-ACCEPTED : goal.returns-then-weighed-ne-ACCEPTED
returns-then-weighed-ne-ACCEPTED c = search judge_stays

pub evaluate-found-requires : goal.evaluate-found-requires
evaluate-found-requires c = search to_evaluate

pub returns-then-found-eq-POINTS : goal.returns-then-found-eq-POINTS
returns-then-found-eq-POINTS c = search judge_16

pub returns : goal.returns
returns c = search judge_run

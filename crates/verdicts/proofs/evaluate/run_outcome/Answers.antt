use mathlib.Core.Path.{◌∙◌}
use Rattle.verdicts.proofs.PointsAnswer.{outcome_found}
use Rattle.verdicts.proofs.evaluate.run_outcome.Goals as goal

pub returns-in-Passed : goal.returns-in-Passed
returns-in-Passed c = let args = c.args in
    outcome_found args.budget args.run.held _ c.left.ensures c.in-Passed.is

pub returns-in-False : goal.returns-in-False
returns-in-False c = let args = c.args in
    let left = c.left.ensures in
    c.points_answer.ensures ∙ outcome_found args.budget args.run.held _ left c.in-False.is

pub returns-in-Ended : goal.returns-in-Ended
returns-in-Ended c = let args = c.args in
    let left = c.left.ensures in
    c.points_answer-in-Ended.ensures ∙ outcome_found args.budget args.run.held _ left c.in-Ended.is

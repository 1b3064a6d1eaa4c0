use Rattle.runner.proofs.Stepping.{cut_applied, operator_applied, operator_malformed}
use Rattle.runner.proofs.running.apply_step.Goals as goal

pub returns-then-step : goal.returns-then-step
returns-then-step c =
    λ e. cut_applied c.args.step e
    c.if-step.true c.apply_operator.ensures

pub returns-then-step-ne0 : goal.returns-then-step-ne0
returns-then-step-ne0 c = λ e. operator_malformed c.args.step e c.if-step.false c.if-step-ne0.true

pub returns : goal.returns
returns c =
    λ e. operator_applied c.args.step e
    c.if-step.false
    c.if-step-ne0.false c.apply_operator-2.ensures

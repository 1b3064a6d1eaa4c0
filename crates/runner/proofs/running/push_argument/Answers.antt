use Rattle.runner.proofs.Stepping.{argument_malformed, argument_missing, argument_place, argument_pushable, argument_pushed}
use Rattle.runner.proofs.running.push_argument.Goals as goal

pub returns-then-step : goal.returns-then-step
returns-then-step c = λ e. argument_malformed c.args.step e c.if-step.true

pub returns-then-arguments-step : goal.returns-then-arguments-step
returns-then-arguments-step c = λ e. argument_missing c.args.step e c.if-arguments-step.true

pub bounds-sorts-place : goal.bounds-sorts-place
bounds-sorts-place c =
    argument_place c.args.step
    c.requires c.if-arguments-step.false

pub push-requires : goal.push-requires
push-requires c =
    argument_pushable c.args.step
    c.requires
    c.if-arguments-step.false

pub returns : goal.returns
returns c =
    λ e. argument_pushed
    c.args.step
    e
    c.if-arguments-step.false
    c.if-step.false
    c.push.ensures

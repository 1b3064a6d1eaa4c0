use mathlib.Core.Bool.{not}
use mathlib.Core.Path.{ap}
use Rattle.runner.proofs.Stepping.{constant_malformed, constant_pushable, constant_pushed, constant_wrong}
use Rattle.runner.proofs.running.push_constant.Goals as goal

pub returns-then-step-ne0 : goal.returns-then-step-ne0
returns-then-step-ne0 c = λ e. constant_malformed c.args.step e c.if-step-ne0.true

pub returns-then-not-is_value : goal.returns-then-not-is_value
returns-then-not-is_value c = λ e. constant_wrong c.args.step e c.is_value.ensures (ap not c.if-not-is_value.true)

pub push-requires : goal.push-requires
push-requires c =
    constant_pushable c.args.step
    c.requires c.is_value.ensures (ap not c.if-not-is_value.false)

pub returns : goal.returns
returns c =
    λ e. constant_pushed c.args.step e
    c.is_value.ensures
    (ap not c.if-not-is_value.false)
    c.if-step-ne0.false c.push.ensures

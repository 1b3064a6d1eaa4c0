use Rattle.std.proofs.Common.{◌/◌, length}
use Rattle.runner.proofs.Runs.{not_alone, reached_none, step_done, step_refused, value_alone}
use Rattle.runner.proofs.running.run_list.Goals as goal

pub loop-k-init : goal.loop-k-init
loop-k-init c = reached_none _ _ _ c.empty-stack.ensures

pub returns-then-is_none : goal.returns-then-is_none
returns-then-is_none c =
    step_refused c.requires c.loop-k.invariant c.loop-k-test.true c.step_at-step.ensures (length c.args.steps.now / 4) c.one_step.result
    c.one_step.ensures c.if-is_none.ensures

pub loop-k-preserved : goal.loop-k-preserved
loop-k-preserved c =
    step_done c.requires c.loop-k.invariant c.loop-k-test.true c.step_at-step.ensures c.one_step.result c.one_step.ensures c.if-is_none.ensures

pub returns-then-steps-stack : goal.returns-then-steps-stack
returns-then-steps-stack c = value_alone c.requires c.loop-k.invariant c.loop-k-test.false c.if-steps-stack.true

pub returns : goal.returns
returns c = not_alone c.requires c.loop-k.invariant c.loop-k-test.false c.if-steps-stack.false

use native.Mathlib.Omega.{arith}
use Rattle.runner.proofs.Stepping.{argument_step, constant_step, no_step, operator_step}
use Rattle.runner.proofs.running.one_step.Goals as goal

pub returns-in-1 : goal.returns-in-1
returns-in-1 c = argument_step c.args.step c.in-1.is c.push_argument.ensures

pub returns-in-2 : goal.returns-in-2
returns-in-2 c = constant_step c.args.step (omega (arith, c.in-2.is)) c.in-2.is c.push_constant.ensures

pub returns-in-3 : goal.returns-in-3
returns-in-3 c = operator_step c.args.step (omega (arith, c.in-3.is)) (omega (arith, c.in-3.is)) c.in-3.is c.apply_step.ensures

pub returns-in_default : goal.returns-in_default
returns-in_default c = no_step c.args.step (omega arith) (omega arith) (omega arith)

use native.Mathlib.Omega.{arith}
use Rattle.checker.proofs.StepsHeld.{applies, body_stands, lacks, rows_end, to_write, writes}
use Rattle.checker.proofs.stepping.list_body.Goals as goal

pub returns-then-function-progress : goal.returns-then-function-progress
returns-then-function-progress c = λ q. lacks q (omega arith)

pub overflow_add-past : goal.overflow_add-past
overflow_add-past c = omega (arith, rows_end c.requires (omega (arith, c.if-function-progress.false)) c.body_of-node.ensures c.size_at.ensures)

pub uses_defined-requires : goal.uses_defined-requires
uses_defined-requires c = body_stands c.requires (omega (arith, c.if-function-progress.false)) c.body_of-node.ensures c.size_at.ensures

pub returns-then-uses_defined : goal.returns-then-uses_defined
returns-then-uses_defined c = λ q. applies q (omega (arith, c.if-function-progress.false)) c.body_of-node.ensures c.size_at.ensures c.uses_defined.ensures c.if-uses_defined.true

pub write_steps-requires : goal.write_steps-requires
write_steps-requires c = to_write c.requires (omega (arith, c.if-function-progress.false)) c.body_of-node.ensures c.size_at.ensures c.uses_defined.ensures c.if-uses_defined.false

pub returns : goal.returns
returns c = λ q. writes q (omega (arith, c.if-function-progress.false)) c.body_of-node.ensures c.size_at.ensures c.uses_defined.ensures c.if-uses_defined.false c.write_steps.ensures

use Rattle.term_nodes.proofs.ConstantLimits.{constant_told, far_enough, no_constant}
use Rattle.term_nodes.proofs.is_constant.Goals as goal

pub returns-then-code-head : goal.returns-then-code-head
returns-then-code-head c = no_constant _ _ _ c.if-code-head.true

pub overflow_sub-result : goal.overflow_sub-result
overflow_sub-result c = far_enough c.args.first c.args.head c.args.code c.if-code-head.false

pub returns : goal.returns
returns c = constant_told _ _ _ c.if-code-head.false

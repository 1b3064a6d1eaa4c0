use Rattle.steps.proofs.Uses.{none_here, none_uses, one_uses}
use Rattle.steps.proofs.list.uses_defined.Goals as goal

pub returns-then-kind : goal.returns-then-kind
returns-then-kind c =
    λ e. one_uses e (c.loop-node.invariant e) c.loop-node-test.true c.code_at.ensures
    c.kind_of-kind.ensures c.if-kind.true

pub loop-node-preserved : goal.loop-node-preserved
loop-node-preserved c =
    λ e. none_here e (c.loop-node.invariant e) c.loop-node-test.true c.code_at.ensures
    c.kind_of-kind.ensures c.if-kind.false

pub returns : goal.returns
returns c = λ e. none_uses e (c.loop-node.invariant e) c.loop-node-test.false

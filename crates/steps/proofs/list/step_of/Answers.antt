use Rattle.steps.proofs.Labels.{argument_step, constant_step, cut_step, other_step}
use Rattle.steps.proofs.list.step_of.Goals as goal

pub returns-then-kind-eq-LITERAL : goal.returns-then-kind-eq-LITERAL
returns-then-kind-eq-LITERAL c =
    constant_step _ c.code_at-code.ensures c.value_at-value.ensures
    c.kind_of-kind.ensures c.head_of-head.ensures c.if-kind-eq-LITERAL.true

pub returns-then-kind-eq-NAME : goal.returns-then-kind-eq-NAME
returns-then-kind-eq-NAME c =
    argument_step _ c.code_at-code.ensures c.value_at-value.ensures
    c.kind_of-kind.ensures c.head_of-head.ensures c.if-kind-eq-LITERAL.false c.if-kind-eq-NAME.true

pub returns-then-head : goal.returns-then-head
returns-then-head c =
    cut_step _ c.code_at-code.ensures
    c.value_at-value.ensures c.kind_of-kind.ensures
    c.head_of-head.ensures c.if-kind-eq-LITERAL.false c.if-kind-eq-NAME.false
    c.if-head.true c.high_in.ensures c.low_in.ensures

pub returns : goal.returns
returns c =
    other_step _ c.code_at-code.ensures
    c.value_at-value.ensures c.kind_of-kind.ensures
    c.head_of-head.ensures c.if-kind-eq-LITERAL.false c.if-kind-eq-NAME.false c.if-head.false
    c.operands_at.ensures

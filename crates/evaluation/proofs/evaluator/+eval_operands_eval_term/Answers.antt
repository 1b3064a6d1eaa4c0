use Rattle.evaluation.proofs.Evaluating.{body_evaluable, body_result, left_some, literal_value, name_value, name_within, operands_evaluable, operator_ready}
use Rattle.evaluation.proofs.Evaluating.{operator_result, pushed_within, term_within}
use native.Mathlib.Omega.{arith}
use Rattle.evaluation.proofs.Operands.{all_done, one_done, operand_evaluable, operand_place, operand_room, operand_size, operand_within}
use Rattle.evaluation.proofs.evaluator.+eval_operands_eval_term.Goals as goal

pub eval_operands-overflow_add-place : goal.eval_operands-overflow_add-place
eval_operands-overflow_add-place t c =
    let e = c.requires in
    omega (arith, operand_room e (c.loop-j.invariant e) c.loop-j-test.true)

pub eval_operands-eval_term-value-requires : goal.eval_operands-eval_term-value-requires
eval_operands-eval_term-value-requires t c =
    let e = c.requires in
    (omega arith, operand_evaluable e (c.loop-j.invariant e) c.loop-j-test.true)

pub eval_operands-offset_bounds-stack-place : goal.eval_operands-offset_bounds-stack-place
eval_operands-offset_bounds-stack-place t c =
    let e = c.requires in
    omega (arith, operand_room e (c.loop-j.invariant e) c.loop-j-test.true)

pub eval_operands-bounds-stack-place : goal.eval_operands-bounds-stack-place
eval_operands-bounds-stack-place t c =
    let e = c.requires in
    operand_place e (c.loop-j.invariant e) c.loop-j-test.true c.eval_term-value.ensures

pub eval_operands-overflow_add-j : goal.eval_operands-overflow_add-j
eval_operands-overflow_add-j t c =
    let e = c.requires in
    let end = operand_within e (c.loop-j.invariant e) c.loop-j-test.true c.size_at-j.ensures in
    omega (arith, end)

pub eval_operands-overflow_add-k : goal.eval_operands-overflow_add-k
eval_operands-overflow_add-k t c =
    let e = c.requires in
    omega (arith, operand_room e (c.loop-j.invariant e) c.loop-j-test.true)

pub eval_operands-loop-j-smaller : goal.eval_operands-loop-j-smaller
eval_operands-loop-j-smaller t c =
    let h = c.loop-j-test.true in
    let e = c.requires in
    omega (arith, operand_size e (c.loop-j.invariant e) h c.size_at-j.ensures, h)

pub eval_operands-loop-j-preserved : goal.eval_operands-loop-j-preserved
eval_operands-loop-j-preserved t c =
    λ e. one_done e (c.loop-j.invariant e) c.loop-j-test.true c.size_at-j.ensures c.eval_term-value.ensures c.with_sort-sorts.ensures.0 c.with_sort-sorts.ensures.1

pub eval_operands-returns : goal.eval_operands-returns
eval_operands-returns t c = λ e. all_done e (c.loop-j.invariant e) c.loop-j-test.false

pub eval_term-returns-then-kind-eq-LITERAL : goal.eval_term-returns-then-kind-eq-LITERAL
eval_term-returns-then-kind-eq-LITERAL t c = λ e. search (literal_value e)

pub eval_term-overflow_add-base : goal.eval_term-overflow_add-base
eval_term-overflow_add-base t c =
    let place = name_within c.requires c.code_at-code.ensures c.value_at-value.ensures c.kind_of-kind.ensures c.if-kind-eq-NAME.true in
    omega (arith, place)

pub eval_term-returns-then-kind-eq-NAME : goal.eval_term-returns-then-kind-eq-NAME
eval_term-returns-then-kind-eq-NAME t c = λ e. search (name_value e)

pub eval_term-overflow_add-stop : goal.eval_term-overflow_add-stop
eval_term-overflow_add-stop t c =
    omega (arith, term_within c.requires c.size_at.ensures)

pub eval_term-overflow_add-node : goal.eval_term-overflow_add-node
eval_term-overflow_add-node t c =
    omega (arith, term_within c.requires c.size_at.ensures)

pub eval_term-overflow_sub-left : goal.eval_term-overflow_sub-left
eval_term-overflow_sub-left t c = left_some c.requires

pub eval_term-eval_operands-sorts-requires : goal.eval_term-eval_operands-sorts-requires
eval_term-eval_operands-sorts-requires t c =
    (omega (arith, left_some c.requires), search (operands_evaluable c.requires))

pub eval_term-overflow_add-past : goal.eval_term-overflow_add-past
eval_term-overflow_add-past t c =
    let end = pushed_within c.requires c.code_at-code.ensures c.value_at-value.ensures
    c.kind_of-kind.ensures c.if-kind-eq-LITERAL.false c.if-kind-eq-NAME.false
    c.size_at.ensures c.eval_operands-sorts.ensures c.operands_at.ensures in
    omega (arith, end)

pub eval_term-operator_at-requires : goal.eval_term-operator_at-requires
eval_term-operator_at-requires t c = search (operator_ready c.requires)

pub eval_term-returns-then-kind-eq-OPERATOR : goal.eval_term-returns-then-kind-eq-OPERATOR
eval_term-returns-then-kind-eq-OPERATOR t c = λ e. search (operator_result e)

pub eval_term-overflow_sub-left-2 : goal.eval_term-overflow_sub-left-2
eval_term-overflow_sub-left-2 t c = left_some c.requires

pub eval_term-eval_term-requires : goal.eval_term-eval_term-requires
eval_term-eval_term-requires t c =
    let evaluable = body_evaluable c.requires c.code_at-code.ensures c.value_at-value.ensures
    c.kind_of-kind.ensures c.if-kind-eq-LITERAL.false c.if-kind-eq-NAME.false
    c.size_at.ensures c.eval_operands-sorts.ensures c.operands_at.ensures
    c.if-kind-eq-OPERATOR.false c.body_place.ensures c.entry_at-body.ensures in
    (omega (arith, left_some c.requires), evaluable)

pub eval_term-returns : goal.eval_term-returns
eval_term-returns t c = λ e. search (body_result e)

use mathlib.Core.Bool.{not}
use mathlib.Core.Path.{ap}
use native.Mathlib.Omega.{arith}
use Rattle.term_nodes.proofs.ConstantLimits.{past_digits, past_none, past_other, past_width, told_constant, told_within}
use Rattle.term_nodes.proofs.limits.constant_past.Goals as goal

pub returns-then-not-is_constant : goal.returns-then-not-is_constant
returns-then-not-is_constant c = rw (← c.code_at-code.ensures) (past_other _ _ _ _ _ c.is_constant.ensures (ap not c.if-not-is_constant.true))

pub returns-then-code-eq-LONG_DECIMAL : goal.returns-then-code-eq-LONG_DECIMAL
returns-then-code-eq-LONG_DECIMAL c =
    rw (← c.code_at-code.ensures) (past_digits _ _ _ _ _ c.is_constant.ensures (ap not c.if-not-is_constant.false) c.if-code-eq-LONG_DECIMAL.true)

pub overflow_add-head : goal.overflow_add-head
overflow_add-head c =
    let told = told_constant 0 _ _ _ 0 c.is_constant.ensures (ap not c.if-not-is_constant.false) in
    omega (arith, told_within _ _ _ _ c.code_at-code.ensures told)

pub overflow_add-result : goal.overflow_add-result
overflow_add-result c =
    let told = told_constant 0 _ _ _ 0 c.is_constant.ensures (ap not c.if-not-is_constant.false) in
    omega (arith, told_within _ _ _ _ c.code_at-code.ensures told)

pub returns-then-value_at-gt-MAX_WIDTH : goal.returns-then-value_at-gt-MAX_WIDTH
returns-then-value_at-gt-MAX_WIDTH c =
    rw (← c.code_at-code.ensures, ← c.value_at.ensures)
    (past_width _ _ _ _ _ c.is_constant.ensures (ap not c.if-not-is_constant.false) c.if-code-eq-LONG_DECIMAL.false c.if-value_at-gt-MAX_WIDTH.true)

pub returns : goal.returns
returns c =
    rw (← c.code_at-code.ensures, ← c.value_at.ensures)
    (past_none _ _ _ _ _ c.is_constant.ensures (ap not c.if-not-is_constant.false) c.if-code-eq-LONG_DECIMAL.false c.if-value_at-gt-MAX_WIDTH.false)

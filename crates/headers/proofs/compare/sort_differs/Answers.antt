use Rattle.headers.proofs.SortHeld.{bool_other, bool_same, width_missing, width_other, width_same}
use native.Mathlib.Omega.{arith}
use Rattle.lexemes.proofs.Listed.{item_room}
use Rattle.headers.proofs.compare.sort_differs.Goals as goal

pub returns-then-code-eq-BOOL : goal.returns-then-code-eq-BOOL
returns-then-code-eq-BOOL c = search bool_same

pub returns-else-code-eq-BOOL : goal.returns-else-code-eq-BOOL
returns-else-code-eq-BOOL c = search bool_other

pub returns-then-code-ne-OPEN : goal.returns-then-code-ne-OPEN
returns-then-code-ne-OPEN c = search width_missing

pub overflow_add-at : goal.overflow_add-at
overflow_add-at c = omega (arith, item_room c.requires.here)

pub overflow_add-result : goal.overflow_add-result
overflow_add-result c = omega (arith, item_room c.requires.here)

pub returns-then-value_at-sort : goal.returns-then-value_at-sort
returns-then-value_at-sort c = search width_same

pub returns-else-value_at-sort : goal.returns-else-value_at-sort
returns-else-value_at-sort c =
    width_other
    c.code_at-code.ensures c.if-sort-eq0.false c.if-code-ne-OPEN.false
    c.value_at.ensures c.if-value_at-sort.false

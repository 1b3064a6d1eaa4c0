use Rattle.term_sorts.proofs.Commons.{agreeing_begins, agreeing_ends, agreeing_fails, agreeing_goes, agreeing_room}
use native.Mathlib.Omega.{arith}
use Rattle.term_sorts.proofs.operands.common_sort.Goals as goal

pub loop-tree-init : goal.loop-tree-init
loop-tree-init c = search agreeing_begins

pub returns-then-sort_at-sort : goal.returns-then-sort_at-sort
returns-then-sort_at-sort c = search agreeing_fails

pub overflow_add-here : goal.overflow_add-here
overflow_add-here c =
    let pre = c.requires in
    omega (arith, agreeing_room c.loop-tree.invariant pre c.loop-tree-test.true)

pub loop-tree-preserved : goal.loop-tree-preserved
loop-tree-preserved c = search agreeing_goes

pub returns : goal.returns
returns c = search agreeing_ends

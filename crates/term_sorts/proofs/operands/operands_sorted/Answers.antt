use Rattle.term_sorts.proofs.AllSorted.{undecided_ends, undecided_fails, undecided_goes, undecided_room}
use native.Mathlib.Omega.{arith}
use Rattle.term_sorts.proofs.operands.operands_sorted.Goals as goal

pub returns-then-sort_at-eq0 : goal.returns-then-sort_at-eq0
returns-then-sort_at-eq0 c = search undecided_fails

pub overflow_add-here : goal.overflow_add-here
overflow_add-here c =
    let pre = c.requires in
    omega (arith, undecided_room c.loop-tree.invariant pre c.loop-tree-test.true)

pub loop-tree-preserved : goal.loop-tree-preserved
loop-tree-preserved c = search undecided_goes

pub returns : goal.returns
returns c = search undecided_ends

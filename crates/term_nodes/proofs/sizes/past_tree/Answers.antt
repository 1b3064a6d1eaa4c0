use native.Mathlib.Omega.{arith}
use Rattle.term_nodes.proofs.Counting.{node_fits, passes_begins, passes_ends, passes_goes, step_fits}
use Rattle.term_nodes.proofs.sizes.past_tree.Goals as goal

pub overflow_add-next : goal.overflow_add-next
overflow_add-next c = omega (arith, node_fits c.requires)

pub loop-passed-init : goal.loop-passed-init
loop-passed-init c = search passes_begins

pub overflow_add-next-in-loop-passed : goal.overflow_add-next-in-loop-passed
overflow_add-next-in-loop-passed c =
    let room =
    step_fits c.operands_at-operands.ensures c.loop-passed.invariant c.loop-passed-test.true c.size_at-next.ensures c.requires in
    omega arith

pub loop-passed-preserved : goal.loop-passed-preserved
loop-passed-preserved c = search passes_goes

pub returns : goal.returns
returns c = search passes_ends

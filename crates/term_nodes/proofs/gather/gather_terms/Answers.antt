use Rattle.term_nodes.proofs.GatheringWalk.{walk_ahead, walk_begins, walk_closes, walk_ends, walk_goes, walk_term}
use native.Mathlib.Omega.{arith}
use Rattle.term_nodes.proofs.gather.gather_terms.Goals as goal

pub loop-at-init : goal.loop-at-init
loop-at-init c = search walk_begins

pub overflow_add-at : goal.overflow_add-at
overflow_add-at c = omega arith

pub loop-at-smaller-then-code_at-eq-CLOSE : goal.loop-at-smaller-then-code_at-eq-CLOSE
loop-at-smaller-then-code_at-eq-CLOSE c = omega arith

pub loop-at-preserved-then-code_at-eq-CLOSE : goal.loop-at-preserved-then-code_at-eq-CLOSE
loop-at-preserved-then-code_at-eq-CLOSE c = search walk_closes

pub head_word-head-requires : goal.head_word-head-requires
head_word-head-requires c = search walk_term

pub operand_count-operands-requires : goal.operand_count-operands-requires
operand_count-operands-requires c = search walk_term

pub put_node-requires : goal.put_node-requires
put_node-requires c = omega arith

pub overflow_add-next : goal.overflow_add-next
overflow_add-next c = omega arith

pub behind-at-requires : goal.behind-at-requires
behind-at-requires c = search walk_term

pub loop-at-smaller : goal.loop-at-smaller
loop-at-smaller c =
    let ahead =
    walk_ahead c.loop-at.invariant c.loop-at-test.true c.code_at.ensures c.if-code_at-eq-CLOSE.false
    c.head_word-head.ensures c.operand_count-operands.ensures c.behind-at.ensures c.requires in
    omega arith

pub loop-at-preserved : goal.loop-at-preserved
loop-at-preserved c =
    walk_goes c.loop-at.invariant c.loop-at-test.true c.code_at.ensures c.if-code_at-eq-CLOSE.false
    c.head_word-head.ensures c.operand_count-operands.ensures c.behind-at.ensures c.requires
    c.put_node.ensures

pub returns : goal.returns
returns c = search walk_ends

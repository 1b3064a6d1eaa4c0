use Rattle.term_nodes.proofs.TermsAt.{close_before, operands_alone, operands_between, operands_counted, operands_of_word, term_room}
use native.Mathlib.Omega.{arith}
use Rattle.term_nodes.proofs.gather.operand_count.Goals as goal

pub returns-then-code_at-ne-OPEN : goal.returns-then-code_at-ne-OPEN
returns-then-code_at-ne-OPEN c = search operands_of_word

pub overflow_add-at : goal.overflow_add-at
overflow_add-at c = omega (arith, term_room c.requires)

pub returns-then-code_at-eq-UNDERSCORE : goal.returns-then-code_at-eq-UNDERSCORE
returns-then-code_at-eq-UNDERSCORE c = search operands_alone

pub overflow_add-at-2 : goal.overflow_add-at-2
overflow_add-at-2 c = omega (arith, term_room c.requires)

pub overflow_sub-next_at : goal.overflow_sub-next_at
overflow_sub-next_at c =
    close_before c.code_at.ensures c.if-code_at-ne-OPEN.false c.code_at-2.ensures c.requires
    c.if-code_at-eq-UNDERSCORE.false c.next_at.ensures c.next_at-2.ensures

pub count_items-requires : goal.count_items-requires
count_items-requires c =
    operands_between c.code_at.ensures c.if-code_at-ne-OPEN.false c.code_at-2.ensures c.requires
    c.if-code_at-eq-UNDERSCORE.false c.next_at.ensures c.next_at-2.ensures

pub returns : goal.returns
returns c = search operands_counted

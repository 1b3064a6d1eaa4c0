use Rattle.term_nodes.proofs.TermsAt.{head_alone, head_constant, head_is_cut, head_is_symbol, head_of_word, term_room}
use native.Mathlib.Omega.{arith}
use Rattle.term_nodes.proofs.gather.head_word.Goals as goal

pub returns-then-code_at-ne-OPEN : goal.returns-then-code_at-ne-OPEN
returns-then-code_at-ne-OPEN c = search head_of_word

pub overflow_add-at : goal.overflow_add-at
overflow_add-at c = omega (arith, term_room c.requires)

pub overflow_add-at-then-first-eq-UNDERSCORE : goal.overflow_add-at-then-first-eq-UNDERSCORE
overflow_add-at-then-first-eq-UNDERSCORE c = omega (arith, term_room c.requires)

pub overflow_add-result : goal.overflow_add-result
overflow_add-result c = omega (arith, term_room c.requires)

pub returns-then-code_at-gt-OTHER : goal.returns-then-code_at-gt-OTHER
returns-then-code_at-gt-OTHER c =
    λ here.
    head_constant c.code_at.ensures c.if-code_at-ne-OPEN.false c.code_at-first.ensures here c.if-first-eq-UNDERSCORE.true
    c.code_at-then-first-eq-UNDERSCORE.ensures c.if-code_at-gt-OTHER.true

pub overflow_add-result-then-first-eq-UNDERSCORE : goal.overflow_add-result-then-first-eq-UNDERSCORE
overflow_add-result-then-first-eq-UNDERSCORE c = omega (arith, term_room c.requires)

pub returns-then-first-eq-UNDERSCORE : goal.returns-then-first-eq-UNDERSCORE
returns-then-first-eq-UNDERSCORE c =
    λ here.
    head_alone c.code_at.ensures c.if-code_at-ne-OPEN.false c.code_at-first.ensures here c.if-first-eq-UNDERSCORE.true
    c.code_at-then-first-eq-UNDERSCORE.ensures c.if-code_at-gt-OTHER.false

pub overflow_add-result-then-first-eq-OPEN : goal.overflow_add-result-then-first-eq-OPEN
overflow_add-result-then-first-eq-OPEN c = omega (arith, term_room c.requires)

pub returns-then-first-eq-OPEN : goal.returns-then-first-eq-OPEN
returns-then-first-eq-OPEN c = search head_is_cut

pub overflow_add-result-2 : goal.overflow_add-result-2
overflow_add-result-2 c = omega (arith, term_room c.requires)

pub returns : goal.returns
returns c = search head_is_symbol

use Rattle.term_nodes.proofs.TermsAt.{behind_alone, behind_head, behind_word, term_room}
use native.Mathlib.Omega.{arith}
use Rattle.term_nodes.proofs.gather.behind.Goals as goal

pub overflow_add-result : goal.overflow_add-result
overflow_add-result c = omega (arith, term_room c.requires)

pub returns-then-code_at-ne-OPEN : goal.returns-then-code_at-ne-OPEN
returns-then-code_at-ne-OPEN c = search behind_word

pub overflow_add-at : goal.overflow_add-at
overflow_add-at c = omega (arith, term_room c.requires)

pub returns-then-code_at-eq-UNDERSCORE : goal.returns-then-code_at-eq-UNDERSCORE
returns-then-code_at-eq-UNDERSCORE c = search behind_alone

pub overflow_add-at-2 : goal.overflow_add-at-2
overflow_add-at-2 c = omega (arith, term_room c.requires)

pub returns : goal.returns
returns c = search behind_head

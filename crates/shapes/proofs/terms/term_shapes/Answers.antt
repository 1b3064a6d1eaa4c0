use Rattle.lexemes.proofs.Listed.{as_item}
use Rattle.lexemes.proofs.Pending.{list_given, skip_less}
use Rattle.shapes.proofs.TermWalk.{terms_behind, terms_end, terms_keyword, terms_less, terms_miss, terms_skip, terms_start, terms_word}
use native.Mathlib.Omega.{arith}
use Rattle.shapes.proofs.terms.term_shapes.Goals as goal

pub loop-at-init : goal.loop-at-init
loop-at-init c = search terms_start

pub returns-then-code : goal.returns-then-code
returns-then-code c = search terms_keyword

pub overflow_add-at : goal.overflow_add-at
overflow_add-at c = omega arith

pub loop-at-smaller-then-code-ne-OPEN : goal.loop-at-smaller-then-code-ne-OPEN
loop-at-smaller-then-code-ne-OPEN c = omega arith

pub loop-at-preserved-then-code-ne-OPEN : goal.loop-at-preserved-then-code-ne-OPEN
loop-at-preserved-then-code-ne-OPEN c = search terms_word

pub is_indexed-requires : goal.is_indexed-requires
is_indexed-requires c = as_item (search list_given)

pub loop-at-smaller-then-is_indexed : goal.loop-at-smaller-then-is_indexed
loop-at-smaller-then-is_indexed c = search skip_less

pub loop-at-preserved-then-is_indexed : goal.loop-at-preserved-then-is_indexed
loop-at-preserved-then-is_indexed c = search terms_skip

pub has_head-requires : goal.has_head-requires
has_head-requires c = search list_given

pub overflow_add-at-then-has_head : goal.overflow_add-at-then-has_head
overflow_add-at-then-has_head c = omega arith

pub loop-at-smaller : goal.loop-at-smaller
loop-at-smaller c = search terms_less

pub loop-at-preserved : goal.loop-at-preserved
loop-at-preserved c = search terms_behind

pub returns-else-has_head : goal.returns-else-has_head
returns-else-has_head c = search terms_miss

pub returns : goal.returns
returns c = search terms_end

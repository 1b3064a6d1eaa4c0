use Rattle.lexemes.proofs.Listed.{item_room}
use mathlib.Core.Path.{sym, ◌∙◌}
use native.Mathlib.Omega.{arith}
use Rattle.term_nodes.proofs.gather.term_of.Goals as goal

pub overflow_add-result : goal.overflow_add-result
overflow_add-result c = omega (arith, item_room c.requires)

pub returns-then-is_annotated : goal.returns-then-is_annotated
returns-then-is_annotated c = λ x. rw (sym (c.is_annotated.ensures x) ∙ c.if-is_annotated.true)

pub returns : goal.returns
returns c = λ x. rw (sym (c.is_annotated.ensures x) ∙ c.if-is_annotated.false)

use native.Mathlib.Omega.{arith}
use Rattle.names.proofs.ByWords.{cut_small, is_beyond, is_cut}
use Rattle.lexemes.proofs.Standing.{coded}
use Rattle.names.proofs.nodes.cut_means.Goals as goal

pub overflow_add-word : goal.overflow_add-word
overflow_add-word c = let h = coded _ _ c.requires in omega arith

pub cut_value-requires : goal.cut_value-requires
cut_value-requires c = let h = cut_small c.value_at-high.result c.value_at-low.result c.if-low-high.true in omega arith

pub returns-then-low-high : goal.returns-then-low-high
returns-then-low-high c = λ view at. rw c.known_as.ensures (search is_cut)

pub returns : goal.returns
returns c = λ view at. rw c.known_as-2.ensures (search is_beyond)

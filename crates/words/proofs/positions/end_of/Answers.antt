use Rattle.words.proofs.Lines.{word_ends, word_short}
use native.Mathlib.Omega.{arith}
use Rattle.words.proofs.positions.end_of.Goals as goal

pub overflow_add-result : goal.overflow_add-result
overflow_add-result c = omega (arith, word_short _ _ c.word_at-word.ensures)

pub returns : goal.returns
returns c = search word_ends

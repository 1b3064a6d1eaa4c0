use Rattle.written_sorts.proofs.Width.{sort_listed, sort_word}
use Rattle.lexemes.proofs.Listed.{item_room}
use native.Mathlib.Omega.{arith}
use Rattle.written_sorts.proofs.places.sort_of.Goals as goal

pub overflow_add-at : goal.overflow_add-at
overflow_add-at c = omega (arith, item_room c.requires.here)

pub returns-then-code_at-eq-OPEN : goal.returns-then-code_at-eq-OPEN
returns-then-code_at-eq-OPEN c = search sort_listed

pub returns : goal.returns
returns c = search sort_word

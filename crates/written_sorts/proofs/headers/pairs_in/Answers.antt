use Rattle.written_sorts.proofs.PairParts.{list_between, list_least}
use Rattle.lexemes.proofs.Listed.{item_ahead, item_room}
use native.Mathlib.Omega.{arith}
use Rattle.written_sorts.proofs.headers.pairs_in.Goals as goal

pub overflow_add-list : goal.overflow_add-list
overflow_add-list c = omega (arith, item_room c.requires.here)

pub overflow_sub-next_at : goal.overflow_sub-next_at
overflow_sub-next_at c = omega (arith, item_ahead c.requires.here c.next_at.ensures)

pub pairs_place-requires : goal.pairs_place-requires
pairs_place-requires c = search list_between

pub returns : goal.returns
returns c = search list_least

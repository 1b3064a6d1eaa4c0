use Rattle.headers.proofs.PairHeld.{pair_other, pair_sorted, sort_of_pair}
use native.Mathlib.Omega.{arith}
use Rattle.lexemes.proofs.Listed.{item_room}
use Rattle.headers.proofs.compare.pair_differs.Goals as goal

pub overflow_add-at : goal.overflow_add-at
overflow_add-at c = omega (arith, item_room (sort_of_pair c.requires).here)

pub overflow_add-result : goal.overflow_add-result
overflow_add-result c = omega (arith, item_room (sort_of_pair c.requires).here)

pub returns-then-not-is_named : goal.returns-then-not-is_named
returns-then-not-is_named c = search pair_other

pub overflow_add-at-2 : goal.overflow_add-at-2
overflow_add-at-2 c = omega (arith, item_room (sort_of_pair c.requires).here)

pub sort_differs-requires : goal.sort_differs-requires
sort_differs-requires c = sort_of_pair c.requires

pub returns : goal.returns
returns c = search pair_sorted

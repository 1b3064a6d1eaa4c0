use Rattle.written_sorts.proofs.PairParts.{pair_place_lem, pair_sort}
use Rattle.written_sorts.proofs.Least.{seek_end, seek_item, seek_start, seek_turn}
use Rattle.lexemes.proofs.Along.{along_less, along_room}
use native.Mathlib.Omega.{arith}
use Rattle.written_sorts.proofs.places.pairs_place.Goals as goal

pub loop-at-init : goal.loop-at-init
loop-at-init c = search seek_start

pub overflow_add-at : goal.overflow_add-at
overflow_add-at c = omega (arith, along_room c.loop-at.invariant c.loop-at-test.true)

pub sort_place-requires : goal.sort_place-requires
sort_place-requires c = search (pair_sort, seek_item)

pub loop-at-smaller : goal.loop-at-smaller
loop-at-smaller c = search along_less

pub loop-at-preserved : goal.loop-at-preserved
loop-at-preserved c = search (seek_turn, pair_place_lem)

pub returns : goal.returns
returns c = search seek_end

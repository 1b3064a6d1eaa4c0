use Rattle.written_sorts.proofs.HeaderSorts.{header_arguments, header-place, header_sort}
use Rattle.lexemes.proofs.Listed.{list_room}
use native.Mathlib.Omega.{arith}
use Rattle.written_sorts.proofs.headers.header_place.Goals as goal

pub overflow_add-at : goal.overflow_add-at
overflow_add-at c = omega (arith, list_room c.requires.here)

pub pairs_in-within-requires : goal.pairs_in-within-requires
pairs_in-within-requires c = search header_arguments

pub sort_place-own-requires : goal.sort_place-own-requires
sort_place-own-requires c = search header_sort

pub returns : goal.returns
returns c = search header-place

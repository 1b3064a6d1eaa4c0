use Rattle.grammars.proofs.Groups.{listed_sort, name_differs, name_fits}
use Rattle.lexemes.proofs.Listed.{item_room}
use native.Mathlib.Omega.{arith}
use Rattle.grammars.proofs.listed.name_misfit.Goals as goal

pub overflow_add-group : goal.overflow_add-group
overflow_add-group c = omega (arith, item_room c.requires.here)

pub overflow_add-group-2 : goal.overflow_add-group-2
overflow_add-group-2 c = omega (arith, item_room c.requires.here)

pub sort_of-sort-requires : goal.sort_of-sort-requires
sort_of-sort-requires c = search listed_sort

pub returns-then-found-sort : goal.returns-then-found-sort
returns-then-found-sort c = search name_fits

pub overflow_add-result : goal.overflow_add-result
overflow_add-result c = omega (arith, item_room c.requires.here)

pub returns : goal.returns
returns c = search name_differs

use Rattle.grammars.proofs.Start.{start_differs, start_fits, start_sort}
use Rattle.grammars.proofs.Empty.{closed_early}
use Rattle.lexemes.proofs.Listed.{list_room}
use native.Mathlib.Omega.{arith}
use Rattle.grammars.proofs.listed.start_misfit.Goals as goal

pub overflow_add-pair : goal.overflow_add-pair
overflow_add-pair c = omega (arith, list_room c.requires.here)

pub returns-then-is_empty : goal.returns-then-is_empty
returns-then-is_empty c = λ p. closed_early c.is_empty.ensures c.if-is_empty.true p.here _

pub overflow_add-pair-2 : goal.overflow_add-pair-2
overflow_add-pair-2 c = omega (arith, list_room c.requires.here)

pub sort_of-requires : goal.sort_of-requires
sort_of-requires c = search start_sort

pub returns-then-sort_of-res : goal.returns-then-sort_of-res
returns-then-sort_of-res c = search start_fits

pub overflow_add-result : goal.overflow_add-result
overflow_add-result c = omega (arith, list_room c.requires.here)

pub returns : goal.returns
returns c = start_differs c.is_empty.ensures c.if-is_empty.false c.sort_of.ensures _ c.if-sort_of-res.false

use Rattle.written_sorts.proofs.PairParts.{group-place, group_rules, group_sort}
use Rattle.lexemes.proofs.Listed.{item_room}
use native.Mathlib.Omega.{arith}
use Rattle.written_sorts.proofs.headers.group_place.Goals as goal

pub overflow_add-sort : goal.overflow_add-sort
overflow_add-sort c = omega (arith, item_room c.requires.here)

pub rules_in-within-requires : goal.rules_in-within-requires
rules_in-within-requires c = search group_rules

pub sort_place-own-requires : goal.sort_place-own-requires
sort_place-own-requires c = search group_sort

pub returns : goal.returns
returns c = search group-place

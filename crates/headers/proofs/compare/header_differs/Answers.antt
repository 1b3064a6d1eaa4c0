use mathlib.Core.Bool.{not}
use mathlib.Core.Path.{ap, refl}
use Rattle.headers.proofs.HeaderHeld.{arguments_differ, name_differs, name_within, own_sort, pairs_at, pairs_within, sort_behind, sort_decides}
use native.Mathlib.Omega.{arith}
use Rattle.headers.proofs.compare.header_differs.Goals as goal

pub overflow_add-at : goal.overflow_add-at
overflow_add-at c = omega (arith, name_within c.requires)

pub overflow_add-result : goal.overflow_add-result
overflow_add-result c = omega (arith, name_within c.requires)

pub returns-then-not-is_named : goal.returns-then-not-is_named
returns-then-not-is_named c = name_differs c.is_named.ensures (ap not c.if-not-is_named.true) _

pub overflow_add-at-2 : goal.overflow_add-at-2
overflow_add-at-2 c = omega (arith, name_within c.requires)

pub overflow_add-list : goal.overflow_add-list
overflow_add-list c = omega (arith, pairs_within c.next_at-list.ensures c.requires)

pub overflow_sub-sort : goal.overflow_sub-sort
overflow_sub-sort c =
    omega (arith, sort_behind c.next_at-list.ensures c.next_at-sort.ensures c.requires)

pub pairs_differ-requires : goal.pairs_differ-requires
pairs_differ-requires c = pairs_at c.next_at-list.ensures c.next_at-sort.ensures c.requires

pub returns-in-Some : goal.returns-in-Some
returns-in-Some c =
    arguments_differ
    c.next_at-list.ensures
    c.next_at-sort.ensures
    c.is_named.ensures
    (ap not c.if-not-is_named.false)
    c.in-Some.ensures
    refl
    _

pub sort_differs-requires : goal.sort_differs-requires
sort_differs-requires c = own_sort c.next_at-list.ensures c.next_at-sort.ensures c.requires

pub returns-in-None : goal.returns-in-None
returns-in-None c =
    sort_decides
    c.next_at-list.ensures
    c.next_at-sort.ensures
    c.is_named.ensures
    (ap not c.if-not-is_named.false)
    c.in-None.ensures
    refl
    c.sort_differs.ensures
    _
    c.unwrap_or.ensures

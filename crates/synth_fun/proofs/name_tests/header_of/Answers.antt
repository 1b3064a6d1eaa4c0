use Rattle.synth_fun.proofs.HeaderRead.{declared_ahead, declared_between, declared_room, first_ahead, first_between, first_room, header_counted}
use Rattle.synth_fun.proofs.HeaderRead.{sort_here}
use Rattle.lexemes.proofs.Listed.{list_room}
use native.Mathlib.Omega.{arith}
use Rattle.synth_fun.proofs.name_tests.header_of.Goals as goal

pub overflow_add-at : goal.overflow_add-at
overflow_add-at c = omega (arith, list_room c.requires.here)

pub overflow_sub-close : goal.overflow_sub-close
overflow_sub-close c =
    omega
    (arith, declared_ahead c.next_at-arguments.ensures c.next_at-result.ensures c.next_at-declared.ensures c.next_at-close.ensures c.requires)

pub overflow_add-arguments : goal.overflow_add-arguments
overflow_add-arguments c =
    omega (arith, first_room c.next_at-arguments.ensures c.requires)

pub overflow_sub-result : goal.overflow_sub-result
overflow_sub-result c =
    omega (arith, first_ahead c.next_at-arguments.ensures c.next_at-result.ensures c.requires)

pub count_items-counted-requires : goal.count_items-counted-requires
count_items-counted-requires c =
    first_between c.next_at-arguments.ensures c.next_at-result.ensures c.requires

pub overflow_add-declared : goal.overflow_add-declared
overflow_add-declared c =
    omega (arith, declared_room c.next_at-arguments.ensures c.next_at-result.ensures c.next_at-declared.ensures c.requires)

pub count_items-listed-requires : goal.count_items-listed-requires
count_items-listed-requires c =
    declared_between c.next_at-arguments.ensures c.next_at-result.ensures c.next_at-declared.ensures c.next_at-close.ensures c.requires

pub sort_of-sort-requires : goal.sort_of-sort-requires
sort_of-sort-requires c =
    sort_here c.next_at-arguments.ensures c.next_at-result.ensures c.requires

pub returns : goal.returns
returns c =
    header_counted c.next_at-arguments.ensures c.next_at-result.ensures c.next_at-declared.ensures c.next_at-close.ensures
    c.count_items-counted.ensures c.count_items-listed.ensures c.sort_of-sort.ensures

use Rattle.headers.proofs.Named.{head_named, pairs_here}
use Rattle.headers.proofs.HeadParts.{arguments_ahead, arguments_room, head_room, header_here}
use native.Mathlib.Omega.{arith}
use Rattle.headers.proofs.heads.head_names.Goals as goal

pub overflow_add-at : goal.overflow_add-at
overflow_add-at c = omega (arith, head_room c.requires)

pub overflow_sub-close : goal.overflow_sub-close
overflow_sub-close c =
    let header = header_here c.requires in
    omega (arith, arguments_ahead header c.next_at-arguments.ensures c.next_at-close.ensures)

pub overflow_add-arguments : goal.overflow_add-arguments
overflow_add-arguments c =
    omega (arith, arguments_room (header_here c.requires) c.next_at-arguments.ensures)

pub new_pairs-within-requires : goal.new_pairs-within-requires
new_pairs-within-requires c =
    pairs_here
    c.next_at-arguments.ensures
    c.next_at-close.ensures
    c.grown-later.ensures
    c.first_row-first.ensures
    _
    c.own_name-own.ensures
    c.requires

pub header_place-sorts-requires : goal.header_place-sorts-requires
header_place-sorts-requires c = search header_here

pub returns : goal.returns
returns c =
    head_named
    c.next_at-arguments.ensures
    c.next_at-close.ensures
    c.grown-later.ensures
    c.first_row-first.ensures
    _
    c.own_name-own.ensures
    c.new_pairs-within.ensures
    c.header_place-sorts.ensures
    c.least.ensures
    c.least-2.ensures

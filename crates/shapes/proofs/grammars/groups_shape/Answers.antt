use Rattle.shapes.proofs.Shaped.{held_made}
use Rattle.lexemes.proofs.Listed.{as_list, between, item_ahead, item_room, no_list}
use native.Mathlib.Omega.{arith}
use Rattle.shapes.proofs.grammars.groups_shape.Goals as goal

pub returns-then-code_at-ne-OPEN : goal.returns-then-code_at-ne-OPEN
returns-then-code_at-ne-OPEN c = λ here. rw (no_list c.code_at.ensures c.if-code_at-ne-OPEN.true here)

pub overflow_add-at : goal.overflow_add-at
overflow_add-at c = omega (arith, item_room c.requires)

pub overflow_sub-next_at : goal.overflow_sub-next_at
overflow_sub-next_at c = omega (arith, item_ahead c.requires c.next_at.ensures)

pub all_groups-requires : goal.all_groups-requires
all_groups-requires c = between (search as_list) c.next_at.ensures

pub returns : goal.returns
returns c =
    held_made c.code_at.ensures c.if-code_at-ne-OPEN.false c.next_at.ensures _
    c.all_groups.ensures

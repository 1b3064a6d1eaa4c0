use Rattle.headers.proofs.HeadParts.{arguments_ahead, arguments_room, head_limited, items_between}
use Rattle.lexemes.proofs.Listed.{list_room}
use native.Mathlib.Omega.{arith}
use Rattle.headers.proofs.heads.head_past.Goals as goal

pub overflow_add-at : goal.overflow_add-at
overflow_add-at c = omega (arith, list_room c.requires.here)

pub overflow_sub-close : goal.overflow_sub-close
overflow_sub-close c = omega (arith, arguments_ahead c.requires c.next_at-arguments.ensures c.next_at-close.ensures)

pub overflow_add-arguments : goal.overflow_add-arguments
overflow_add-arguments c = omega (arith, arguments_room c.requires c.next_at-arguments.ensures)

pub item_past-ninth-requires : goal.item_past-ninth-requires
item_past-ninth-requires c = search items_between

pub returns : goal.returns
returns c = search head_limited

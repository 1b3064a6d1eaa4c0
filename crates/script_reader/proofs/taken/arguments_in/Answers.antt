use Rattle.lexemes.proofs.Listed.{list_room}
use Rattle.headers.proofs.HeadParts.{arguments_ahead, arguments_room, items_between}
use native.Mathlib.Omega.{arith}
use Rattle.script_reader.proofs.taken.arguments_in.Goals as goal

pub overflow_add-at : goal.overflow_add-at
overflow_add-at c = omega (arith, list_room c.requires.here)

pub overflow_sub-close : goal.overflow_sub-close
overflow_sub-close c = omega (arith, arguments_ahead c.requires c.next_at-arguments.ensures c.next_at-close.ensures)

pub overflow_add-arguments : goal.overflow_add-arguments
overflow_add-arguments c = omega (arith, arguments_room c.requires c.next_at-arguments.ensures)

pub count_items-requires : goal.count_items-requires
count_items-requires c = search items_between

pub returns : goal.returns
returns c = λ p. c.count_items.ensures (items_between c.next_at-arguments.ensures c.next_at-close.ensures p)

use Rattle.grammars.proofs.Empty.{emptiness}
use Rattle.lexemes.proofs.Listed.{as_item, item_ahead, list_room}
use native.Mathlib.Omega.{arith}
use Rattle.grammars.proofs.listed.is_empty.Goals as goal

pub overflow_sub-close : goal.overflow_sub-close
overflow_sub-close c = omega (arith, item_ahead (as_item c.requires) c.next_at-close.ensures)

pub overflow_add-result : goal.overflow_add-result
overflow_add-result c = omega (arith, list_room c.requires)

pub returns : goal.returns
returns c = search emptiness

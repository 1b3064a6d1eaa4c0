use Rattle.shapes.proofs.WholeRules.{held_made}
use Rattle.lexemes.proofs.Listed.{as_item, between, item_ahead, list_room}
use native.Mathlib.Omega.{arith}
use Rattle.shapes.proofs.whole_rules.held_uncarried.Goals as goal

pub overflow_add-at : goal.overflow_add-at
overflow_add-at c = omega (arith, list_room c.requires)

pub overflow_sub-next_at : goal.overflow_sub-next_at
overflow_sub-next_at c = omega (arith, item_ahead (as_item c.requires) c.next_at.ensures)

pub any_uncarried-requires : goal.any_uncarried-requires
any_uncarried-requires c = between c.requires c.next_at.ensures

pub returns : goal.returns
returns c = search held_made

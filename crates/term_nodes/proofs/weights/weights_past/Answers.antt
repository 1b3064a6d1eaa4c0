use mathlib.Core.Bool.{not}
use mathlib.Core.Path.{ap}
use Rattle.term_nodes.proofs.RuleWeights.{attributes_at, none_past, rule_list, some_past}
use Rattle.lexemes.proofs.Listed.{between, item_ahead, item_room}
use native.Mathlib.Omega.{arith}
use Rattle.term_nodes.proofs.weights.weights_past.Goals as goal

pub returns-then-not-is_annotated : goal.returns-then-not-is_annotated
returns-then-not-is_annotated c = search none_past

pub overflow_sub-close : goal.overflow_sub-close
overflow_sub-close c = omega (arith, item_ahead c.requires c.next_at-close.ensures)

pub overflow_add-at : goal.overflow_add-at
overflow_add-at c = omega (arith, item_room c.requires)

pub item_at-requires : goal.item_at-requires
item_at-requires c = between (rule_list c.is_annotated.ensures (ap not c.if-not-is_annotated.false) c.requires) c.next_at-close.ensures

pub attributes_past-requires : goal.attributes_past-requires
attributes_past-requires c = attributes_at c.is_annotated.ensures (ap not c.if-not-is_annotated.false) c.next_at-close.ensures c.item_at.ensures c.requires

pub returns : goal.returns
returns c = some_past c.is_annotated.ensures (ap not c.if-not-is_annotated.false) c.next_at-close.ensures c.item_at.ensures _ c.attributes_past.ensures

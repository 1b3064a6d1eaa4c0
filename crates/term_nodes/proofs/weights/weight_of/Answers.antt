use mathlib.Core.Bool.{not}
use mathlib.Core.Path.{ap}
use Rattle.term_nodes.proofs.RuleWeights.{attributes_at, first_within, many_weigh, no_weight, one_weighs, rule_list}
use Rattle.lexemes.proofs.Listed.{between, item_ahead, item_room}
use native.Mathlib.Omega.{arith}
use Rattle.term_nodes.proofs.weights.weight_of.Goals as goal

pub is_annotated-requires : goal.is_annotated-requires
is_annotated-requires c = c.requires.here

pub returns-then-not-is_annotated : goal.returns-then-not-is_annotated
returns-then-not-is_annotated c = search no_weight

pub overflow_sub-close : goal.overflow_sub-close
overflow_sub-close c = omega (arith, item_ahead c.requires.here c.next_at-close.ensures)

pub overflow_add-at : goal.overflow_add-at
overflow_add-at c = omega (arith, item_room c.requires.here)

pub item_at-first-requires : goal.item_at-first-requires
item_at-first-requires c = between (rule_list c.is_annotated.ensures (ap not c.if-not-is_annotated.false) c.requires.here) c.next_at-close.ensures

pub count_items-requires : goal.count_items-requires
count_items-requires c = attributes_at c.is_annotated.ensures (ap not c.if-not-is_annotated.false) c.next_at-close.ensures c.item_at-first.ensures c.requires.here

pub returns-then-count_items-ne2 : goal.returns-then-count_items-ne2
returns-then-count_items-ne2 c = many_weigh c.is_annotated.ensures (ap not c.if-not-is_annotated.false) c.next_at-close.ensures c.item_at-first.ensures c.count_items.ensures c.if-count_items-ne2.true

pub overflow_add-first : goal.overflow_add-first
overflow_add-first c =
    let h = first_within c.is_annotated.ensures (ap not c.if-not-is_annotated.false) c.next_at-close.ensures c.item_at-first.ensures c.count_items.ensures c.if-count_items-ne2.false c.requires in
    omega arith

pub returns : goal.returns
returns c = one_weighs c.is_annotated.ensures (ap not c.if-not-is_annotated.false) c.next_at-close.ensures c.item_at-first.ensures c.count_items.ensures c.if-count_items-ne2.false c.value_at.ensures

use Rattle.written_sorts.proofs.PairParts.{no_rule_place, rule-place, rule-sort}
use Rattle.lexemes.proofs.Listed.{item_room}
use native.Mathlib.Omega.{arith}
use Rattle.written_sorts.proofs.headers.rule_place.Goals as goal

pub overflow_add-at : goal.overflow_add-at
overflow_add-at c = omega (arith, item_room c.requires.here)

pub sort_place-requires : goal.sort_place-requires
sort_place-requires c = search rule-sort

pub returns-then-is_pattern : goal.returns-then-is_pattern
returns-then-is_pattern c = search rule-place

pub returns : goal.returns
returns c = search no_rule_place

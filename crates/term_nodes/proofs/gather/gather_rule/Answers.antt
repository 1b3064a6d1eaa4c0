use Rattle.term_nodes.proofs.RuleNodes.{pattern_gathered, row_room, rule_gathered, rule_room, rule_terms}
use native.Mathlib.Omega.{arith}
use Rattle.term_nodes.proofs.gather.gather_rule.Goals as goal

pub gather_terms-requires : goal.gather_terms-requires
gather_terms-requires c = search rule_terms

pub returns-then-not-is_pattern : goal.returns-then-not-is_pattern
returns-then-not-is_pattern c = search rule_gathered

pub overflow_add-at : goal.overflow_add-at
overflow_add-at c = omega (arith, rule_room c.requires)

pub put_node-requires : goal.put_node-requires
put_node-requires c = search row_room

pub returns : goal.returns
returns c = search pattern_gathered

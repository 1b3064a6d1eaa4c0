use Rattle.term_nodes.proofs.OneRule.{nodes_here, rule_behind, rule_here, rule-past, rule_put, shaped_here}
use Rattle.term_nodes.proofs.rules.gather_one.Goals as goal

pub gather_rule-row-requires : goal.gather_rule-row-requires
gather_rule-row-requires c = search rule_here

pub word_past-within-requires : goal.word_past-within-requires
word_past-within-requires c = search nodes_here

pub weight_of-requires : goal.weight_of-requires
weight_of-requires c = search shaped_here

pub returns-then-rule-lt-RULES : goal.returns-then-rule-lt-RULES
returns-then-rule-lt-RULES c = search rule_put

pub returns-then-rule-eq-RULES : goal.returns-then-rule-eq-RULES
returns-then-rule-eq-RULES c = search rule-past

pub returns : goal.returns
returns c = search rule_behind

use Rattle.lexemes.proofs.Along.{along_less}
use Rattle.term_nodes.proofs.Onward.{raw_kept, rules_kept}
use Rattle.term_nodes.proofs.RuleLoop.{rule_next, rules_end, rules_start, rules_turn}
use Rattle.term_nodes.proofs.rules.gather_group.Goals as goal

pub loop-at-init : goal.loop-at-init
loop-at-init c = search rules_start

pub gather_one-found-requires : goal.gather_one-found-requires
gather_one-found-requires c = search rule_next

pub loop-at-smaller : goal.loop-at-smaller
loop-at-smaller c = search along_less

pub loop-at-preserved : goal.loop-at-preserved
loop-at-preserved c = search rules_turn

pub shape_of-raw : goal.shape_of-raw
shape_of-raw c = raw_kept c.loop-at.invariant

pub shape_of-rules : goal.shape_of-rules
shape_of-rules c = rules_kept c.loop-at.invariant

pub returns : goal.returns
returns c = search rules_end

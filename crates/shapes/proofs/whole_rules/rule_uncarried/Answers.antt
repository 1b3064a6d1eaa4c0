use Rattle.shapes.proofs.Annotated.{annotated_list}
use Rattle.shapes.proofs.WholeRules.{rule_held, rule_tested}
use Rattle.shapes.proofs.whole_rules.rule_uncarried.Goals as goal

pub held_uncarried-requires : goal.held_uncarried-requires
held_uncarried-requires c = annotated_list c.is_annotated.ensures c.if-is_annotated.true c.requires

pub returns-then-is_annotated : goal.returns-then-is_annotated
returns-then-is_annotated c = search rule_held

pub returns : goal.returns
returns c = search rule_tested

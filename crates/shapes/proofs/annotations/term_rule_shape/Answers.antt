use Rattle.shapes.proofs.Annotated.{annotated_list, rule_annotated, rule_plain}
use Rattle.shapes.proofs.annotations.term_rule_shape.Goals as goal

pub annotated_shape-requires : goal.annotated_shape-requires
annotated_shape-requires c = annotated_list c.is_annotated.ensures c.if-is_annotated.true c.requires

pub returns-then-is_annotated : goal.returns-then-is_annotated
returns-then-is_annotated c = search rule_annotated

pub returns : goal.returns
returns c = search rule_plain

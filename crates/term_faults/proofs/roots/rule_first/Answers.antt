use Rattle.term_faults.proofs.Rooted.{first_annotated, first_none, first_plain}
use Rattle.term_faults.proofs.roots.rule_first.Goals as goal

pub returns-then-code_at-ne-WEIGHT : goal.returns-then-code_at-ne-WEIGHT
returns-then-code_at-ne-WEIGHT c = search first_plain

pub returns-then-word-lt2 : goal.returns-then-word-lt2
returns-then-word-lt2 c = search first_none

pub returns : goal.returns
returns c = search first_annotated

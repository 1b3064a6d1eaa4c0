use Rattle.derivation.proofs.PassLoops.{rule_known, rule_low, rule_yields}
use Rattle.derivation.proofs.productive.with_rule.Goals as goal

pub has-requires : goal.has-requires
has-requires c = search rule_low

pub returns-then-has : goal.returns-then-has
returns-then-has c = search rule_known

pub put-requires : goal.put-requires
put-requires c = search rule_low

pub returns-then-form_yields : goal.returns-then-form_yields
returns-then-form_yields c = search rule_yields

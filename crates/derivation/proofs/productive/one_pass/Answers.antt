use Rattle.derivation.proofs.PassLoops.{pass_done, pass_start, turn_grown}
use Rattle.derivation.proofs.productive.one_pass.Goals as goal

pub loop-rule-init : goal.loop-rule-init
loop-rule-init c = search pass_start

pub loop-rule-preserved : goal.loop-rule-preserved
loop-rule-preserved c = search turn_grown

pub returns : goal.returns
returns c = search pass_done

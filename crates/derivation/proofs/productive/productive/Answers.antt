use Rattle.derivation.proofs.PassLoops.{pass_adds, pass_adds_none, passes_done, passes_start}
use Rattle.derivation.proofs.productive.productive.Goals as goal

pub loop-pass-init : goal.loop-pass-init
loop-pass-init c = search passes_start

pub returns-then-grown-found : goal.returns-then-grown-found
returns-then-grown-found c = search pass_adds_none

pub loop-pass-preserved : goal.loop-pass-preserved
loop-pass-preserved c = search pass_adds

pub returns : goal.returns
returns c = search passes_done

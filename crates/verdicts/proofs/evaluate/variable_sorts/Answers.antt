use native.Mathlib.Omega.{arith}
use mathlib.Core.Path.{◌≡◌, refl}
use Rattle.verdicts.proofs.VariableSorts.{sorts_more, sorts_start}
use Rattle.verdicts.proofs.evaluate.variable_sorts.Goals as goal

pub loop-k-init : goal.loop-k-init
loop-k-init c = sorts_start _ _ refl

pub loop-k-preserved : goal.loop-k-preserved
loop-k-preserved c = sorts_more c.loop-k.invariant (omega arith) c.sort_in.ensures

pub returns : goal.returns
returns c =
    let all : c.loop-k.k ≡ c.args.count = omega arith in
    rw (← all) c.loop-k.invariant.read

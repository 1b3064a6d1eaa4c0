use Rattle.blocks.proofs.Putting.{list_short, sum_end, sum_more, sum_start}
use lib.ListN.{length}
use mathlib.Core.Path.{ap}
use native.Mathlib.Omega.{arith}
use Rattle.blocks.proofs.writing.rules_in.Goals as goal

pub loop-function-init : goal.loop-function-init
loop-function-init c = sum_start

pub overflow_add-rules : goal.overflow_add-rules
overflow_add-rules c =
    omega (arith, c.loop-function.invariant.low, ap length c.list_shown.ensures, list_short c.args.shown.now c.loop-function.function)

pub loop-function-preserved : goal.loop-function-preserved
loop-function-preserved c = sum_more c.loop-function.invariant c.loop-function-test.true c.list_shown.ensures

pub returns : goal.returns
returns c = search sum_end

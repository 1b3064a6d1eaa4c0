use Rattle.blocks.proofs.Lengths.{add_end, add_more, add_start}
use native.Mathlib.Omega.{arith}
use Rattle.blocks.proofs.reading.rules_before.Goals as goal

pub loop-k-init : goal.loop-k-init
loop-k-init c = add_start

pub overflow_add-rules : goal.overflow_add-rules
overflow_add-rules c = omega (arith, c.loop-k.invariant.low, c.list_length-rules.ensures.low)

pub loop-k-preserved : goal.loop-k-preserved
loop-k-preserved c = add_more c.loop-k.invariant c.list_length-rules.ensures

pub returns : goal.returns
returns c = add_end c.loop-k.invariant c.requires (omega arith)

use Rattle.blocks.proofs.Again.{payload_length}
use Rattle.blocks.proofs.Copying.{copy_end, copy_more}
use Rattle.blocks.specs.Blocks.{payload_in}
use lib.ListN.{drop, take}
use mathlib.Core.Path.{ap, ◌∙◌}
use Prim.Native.Nat.{ℕ}
use native.Mathlib.Omega.{arith}
use Rattle.blocks.proofs.reading.copy_part.Goals as goal

pub overflow_add-from : goal.overflow_add-from
overflow_add-from c = omega (arith, payload_length c.args.file.now)

pub loop-i-preserved : goal.loop-i-preserved
loop-i-preserved c =
    copy_more c.args.file.now c.args.from c.loop-i.out c.loop-i.i c.loop-i.invariant (omega arith) (omega arith) c.pay_at.ensures

pub returns : goal.returns
returns c =
    copy_end c.args.file.now c.args.from c.loop-i.out c.loop-i.i c.loop-i.invariant (omega arith)
    ∙ ap (λ (n : ℕ). take n (drop c.args.from (payload_in c.args.file.now))) c.loop-i.auto.out

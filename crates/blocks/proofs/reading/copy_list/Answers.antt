use Rattle.blocks.proofs.Again.{payload_length}
use Rattle.blocks.proofs.Copying.{list_end, list_more, list_start}
use Rattle.blocks.specs.Blocks.{payload_in}
use Rattle.blocks.specs.Layout.{pairs}
use lib.ListN.{drop, take}
use mathlib.Core.Path.{ap, ◌∙◌}
use Prim.Native.Nat.{ℕ, ◌*◌}
use native.Mathlib.Omega.{arith}
use Rattle.blocks.proofs.reading.copy_list.Goals as goal

pub loop-i-init : goal.loop-i-init
loop-i-init c = list_start c.args.file.now c.args.from c.args.out.now

pub overflow_mul-i : goal.overflow_mul-i
overflow_mul-i c = omega (arith, payload_length c.args.file.now)

pub overflow_add-from : goal.overflow_add-from
overflow_add-from c = omega (arith, payload_length c.args.file.now)

pub pair_at-requires : goal.pair_at-requires
pair_at-requires c = omega (arith, payload_length c.args.file.now)

pub loop-i-preserved : goal.loop-i-preserved
loop-i-preserved c =
    list_more c.args.file.now c.args.from c.loop-i.out c.loop-i.i c.loop-i.invariant (omega arith) (omega arith) c.pair_at.ensures

pub returns : goal.returns
returns c =
    list_end c.args.file.now c.args.from c.loop-i.out c.loop-i.i c.loop-i.invariant (omega arith)
    ∙ ap (λ (n : ℕ). pairs (take (2 * n) (drop c.args.from (payload_in c.args.file.now)))) c.loop-i.auto.out

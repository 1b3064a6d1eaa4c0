use Rattle.blocks.proofs.Adding.{sum_end, sum_more, sum_start, term_small}
use mathlib.Core.Path.{◌∙◌, ap, ◌≡◌}
use Prim.Native.Nat.{ℕ, ◌+◌, ◌-◌, ◌<◌, ◌≤◌}
use lib.ListN.{drop, length, length-take, take}
use lib.Seq.{get_or-drop, get_or-take}
use native.Mathlib.Omega.{arith}
use Rattle.blocks.specs.Blocks.{sum_from}
use Rattle.blocks.proofs.sum_at.Goals as goal

pub loop-i-init : goal.loop-i-init
loop-i-init c = sum_start

byte : (c : goal.After-from) → c.from.result < 256
byte c =
    let low = c.type_inv.file (c.args.start + c.loop-i.i) in
    let l = length-take (c.args.start + 510 - c.args.start) (drop c.args.start c.args.file.now) in
    let e1 = get_or-take (c.args.start + 510 - c.args.start) (drop c.args.start c.args.file.now) c.loop-i.i 0 (omega (arith, l)) in
    omega (arith, c.from.ensures, e1, get_or-drop c.args.start c.args.file.now c.loop-i.i 0)

short : (c : goal.After-from) → length (take (c.args.start + 510 - c.args.start) (drop c.args.start c.args.file.now)) ≤ 510
short c = omega (arith, length-take (c.args.start + 510 - c.args.start) (drop c.args.start c.args.file.now))

pub overflow_add-sum-in-loop-i : goal.overflow_add-sum-in-loop-i
overflow_add-sum-in-loop-i c = omega (arith, term_small c.loop-i.invariant c.loop-i-test.true (short c) c.from.ensures (byte c))

pub loop-i-preserved : goal.loop-i-preserved
loop-i-preserved c = sum_more c.loop-i.invariant c.loop-i-test.true (short c) c.from.ensures (byte c)

pub returns : goal.returns
returns c =
    let z : c.args.start + 510 - c.args.start ≡ 510 = omega arith in
    sum_end c.loop-i.invariant c.loop-i-test.false ∙ ap (λ (n : ℕ). sum_from 1 (take n (drop c.args.start c.args.file.now))) z

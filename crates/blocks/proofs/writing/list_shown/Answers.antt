use lib.ListN.{drop, take}
use mathlib.Core.Path.{◌≡◌, ap}
use Prim.Native.Nat.{ℕ, ◌+◌, ◌*◌, ◌-◌}
use native.Mathlib.Omega.{arith}
use Rattle.blocks.proofs.Putting.{used_are}
use Rattle.blocks.proofs.writing.list_shown.Goals as goal

pub returns : goal.returns
returns c =
    let z : 4096 * (c.args.function + 1) - 4096 * c.args.function ≡ 4096 = omega arith in
    used_are c.args.shown.now c.args.function (ap (λ (n : ℕ). take n (drop (4096 * c.args.function) c.args.shown.now)) z) c.count_used-count.ensures

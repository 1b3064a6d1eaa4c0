use Prim.Native.Nat.{◌*◌}
use native.Mathlib.Omega.{arith}
use lib.ListN.{length-set}
use Rattle.steps.proofs.Lists.{put_four}
use Rattle.steps.proofs.list.put_step.Goals as goal

pub bounds-area-start-2 : goal.bounds-area-start-2
bounds-area-start-2 c = rw length-set (omega arith)

pub bounds-area-start-3 : goal.bounds-area-start-3
bounds-area-start-3 c = rw (length-set, length-set) (omega arith)

pub bounds-area-start-4 : goal.bounds-area-start-4
bounds-area-start-4 c = rw (length-set, length-set, length-set) (omega arith)

pub returns : goal.returns
returns c = put_four c.args.area.now (4 * c.args.place) c.args.step.first c.args.step.second c.args.step.third c.args.step.fourth

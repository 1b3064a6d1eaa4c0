use Prim.Native.Nat.{◌+◌, ◌*◌}
use lib.ListN.{length-set}
use native.Mathlib.Omega.{arith}
use Rattle.script.specs.code.Places.{function_width, functions_place}
use Rattle.script.proofs.TableParts.{four_written}
use Rattle.script.proofs.places.put_numbers.Goals as goal

pub bounds-places-at-2 : goal.bounds-places-at-2
bounds-places-at-2 c = simp length-set (omega arith)

pub bounds-places-at-3 : goal.bounds-places-at-3
bounds-places-at-3 c = simp length-set (omega arith)

pub bounds-places-at-4 : goal.bounds-places-at-4
bounds-places-at-4 c = simp length-set (omega arith)

pub returns : goal.returns
returns c = let a = c.args in four_written a.places.now (functions_place + function_width * a.function) _ _ _ _

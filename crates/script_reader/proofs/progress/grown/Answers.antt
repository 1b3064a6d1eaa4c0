use native.Mathlib.Omega.{arith}
use Rattle.script_reader.proofs.progress.grown.Goals as goal

pub overflow_add-result : goal.overflow_add-result
overflow_add-result c = let h = rw c.if-grows.true at c.requires in omega arith

pub returns-then-grows : goal.returns-then-grows
returns-then-grows c = rw c.if-grows.true

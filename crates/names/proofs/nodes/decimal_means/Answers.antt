use native.Mathlib.Omega.{arith}
use Rattle.lexemes.proofs.Standing.{coded}
use Rattle.names.proofs.nodes.decimal_means.Goals as goal

pub overflow_add-word : goal.overflow_add-word
overflow_add-word c = let h = coded _ _ c.requires in omega arith

use native.Mathlib.Omega.{arith}
use borrow.Author.Rules.{rules}
use lib.ListN.{length-set}
use Rattle.searching.proofs.Trail.{inv_start, turn_more, turn_end}
use Rattle.searching.proofs.showing.follow.Goals as goal

pub loop-node-init : goal.loop-node-init
loop-node-init c = search inv_start

pub shape_of-shown-then-code_at-ne-NON_TERMINAL : goal.shape_of-shown-then-code_at-ne-NON_TERMINAL
shape_of-shown-then-code_at-ne-NON_TERMINAL c = simp length-set (search rules)

pub returns-then-code_at-ne-NON_TERMINAL : goal.returns-then-code_at-ne-NON_TERMINAL
returns-then-code_at-ne-NON_TERMINAL c = search turn_end

pub loop-node-smaller : goal.loop-node-smaller
loop-node-smaller c = simp length-set (omega arith)

pub loop-node-preserved : goal.loop-node-preserved
loop-node-preserved c = search turn_more

use Rattle.lexemes.proofs.Along.{passed_all, passed_out, passed_start, passed_turn}
use native.Mathlib.Omega.{arith}
use Rattle.lexemes.proofs.items.item_at.Goals as goal

pub loop-passed-init : goal.loop-passed-init
loop-passed-init c = search passed_start

pub returns-then-word-close : goal.returns-then-word-close
returns-then-word-close c = passed_out _ _ c.loop-passed.invariant (omega arith) c.if-word-close.true

pub loop-passed-preserved : goal.loop-passed-preserved
loop-passed-preserved c = search passed_turn

pub returns : goal.returns
returns c = passed_all _ _ c.loop-passed.invariant (omega arith)

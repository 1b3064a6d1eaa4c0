use Rattle.lexemes.proofs.Along.{count_start, count_turn, count_end, along_ahead, along_less, along_room}
use native.Mathlib.Omega.{arith}
use Rattle.lexemes.proofs.items.count_items.Goals as goal

pub loop-word-init : goal.loop-word-init
loop-word-init c = (omega arith, search count_start)

pub overflow_add-found : goal.overflow_add-found
overflow_add-found c = omega (arith, along_room c.loop-word.invariant.1 c.loop-word-test.true)

pub loop-word-smaller : goal.loop-word-smaller
loop-word-smaller c = along_less c.loop-word.invariant.1 c.loop-word-test.true c.next_at-word.ensures

pub loop-word-preserved : goal.loop-word-preserved
loop-word-preserved c = (omega (arith, along_ahead c.loop-word.invariant.1 c.loop-word-test.true c.next_at-word.ensures), search count_turn)

pub returns : goal.returns
returns c = search count_end

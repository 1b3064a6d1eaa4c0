use native.Mathlib.Omega.{arith}
use Rattle.lexemes.proofs.Along.{along_less, along_room}
use Rattle.names.proofs.PairTurns.{go_end, go_long, go_name, go_pair, go_room, go_start, go_turn}
use Rattle.names.proofs.new.new_pairs.Goals as goal

pub loop-at-init : goal.loop-at-init
loop-at-init c = search go_start

pub overflow_add-at : goal.overflow_add-at
overflow_add-at c = omega (arith, along_room c.loop-at.invariant c.loop-at-test.true)

pub new_name-tested-requires : goal.new_name-tested-requires
new_name-tested-requires c = search go_name

pub overflow_add-row : goal.overflow_add-row
overflow_add-row c = omega (arith, go_room c.loop-at.invariant c.loop-at-test.true)

pub put_pair-requires : goal.put_pair-requires
put_pair-requires c = search go_pair

pub overflow_add-done : goal.overflow_add-done
overflow_add-done c =
    omega (arith, go_room c.loop-at.invariant c.loop-at-test.true)

pub loop-at-smaller : goal.loop-at-smaller
loop-at-smaller c = search along_less

pub loop-at-preserved : goal.loop-at-preserved
loop-at-preserved c = search go_turn

pub shape_of-names : goal.shape_of-names
shape_of-names c = search go_long

pub returns : goal.returns
returns c = search go_end

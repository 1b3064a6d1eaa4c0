use Rattle.written_sorts.proofs.PairParts.{list_between, list_least}
use Rattle.written_sorts.proofs.Least.{seek_end, seek_item, seek_start, seek_turn}
use Rattle.lexemes.proofs.Along.{along_less}
use Rattle.lexemes.proofs.Listed.{item_ahead, item_room}
use native.Mathlib.Omega.{arith}
use Rattle.written_sorts.proofs.headers.rules_in.Goals as goal

pub overflow_sub-close : goal.overflow_sub-close
overflow_sub-close c = omega (arith, item_ahead c.requires.here c.next_at-close.ensures)

pub overflow_add-at : goal.overflow_add-at
overflow_add-at c = omega (arith, item_room c.requires.here)

pub loop-at-init : goal.loop-at-init
loop-at-init c = search (seek_start, list_between)

pub rule_place-requires : goal.rule_place-requires
rule_place-requires c = search seek_item

pub loop-at-smaller : goal.loop-at-smaller
loop-at-smaller c = search along_less

pub loop-at-preserved : goal.loop-at-preserved
loop-at-preserved c = search seek_turn

pub returns : goal.returns
returns c = search (list_least, seek_end)

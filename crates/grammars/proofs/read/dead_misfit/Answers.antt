use native.Mathlib.Omega.{arith}
use Rattle.lexemes.proofs.Listed.{list_room}
use Rattle.grammars.proofs.Dead.{dead_placed, no_dead, pair_room, pairs_list}
use Rattle.grammars.proofs.SynthFunParts.{pairs_between}
use Rattle.grammars.proofs.read.dead_misfit.Goals as goal

pub returns-then-dead-listed : goal.returns-then-dead-listed
returns-then-dead-listed c = λ p. no_dead p c.if-dead-listed.true _

pub close_at-close-requires : goal.close_at-close-requires
close_at-close-requires c = pairs_list c.requires c.non_terminals_at-non_terminals.ensures

pub overflow_add-non_terminals : goal.overflow_add-non_terminals
overflow_add-non_terminals c = omega (arith, list_room (pairs_list c.requires c.non_terminals_at-non_terminals.ensures))

pub item_at-requires : goal.item_at-requires
item_at-requires c = pairs_between c.requires.command c.non_terminals_at-non_terminals.ensures c.close_at-close.ensures

pub overflow_add-result : goal.overflow_add-result
overflow_add-result c = omega (arith, pair_room c.requires c.if-dead-listed.false c.non_terminals_at-non_terminals.ensures c.close_at-close.ensures c.item_at.ensures)

pub returns : goal.returns
returns c = λ p. dead_placed p c.if-dead-listed.false c.non_terminals_at-non_terminals.ensures c.close_at-close.ensures c.item_at.ensures _

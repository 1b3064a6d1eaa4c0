use native.Mathlib.Omega.{arith}
use Rattle.lexemes.proofs.Listed.{item_room}
use Rattle.shapes.specs.Shapes.{group_shape, pair_shape}
use Rattle.grammars.proofs.SynthFunParts.{as_list, groups, pairs, pairs_between}
use Rattle.grammars.proofs.Limits.{limited, listed_in}
use Rattle.grammars.proofs.read.grammar_past.Goals as goal

pub overflow_add-non_terminals : goal.overflow_add-non_terminals
overflow_add-non_terminals c =
    omega (arith, item_room (pairs c.requires.command c.non_terminals_at-non_terminals.ensures).here)

pub close_at-requires : goal.close_at-requires
close_at-requires c = search (as_list pair_shape, pairs)

pub item_past-listed-requires : goal.item_past-listed-requires
item_past-listed-requires c = search pairs_between

pub overflow_add-groups : goal.overflow_add-groups
overflow_add-groups c =
    omega (arith, item_room (groups c.requires.command c.groups_at-groups.ensures).here)

pub close_at-requires-2 : goal.close_at-requires-2
close_at-requires-2 c = search (as_list group_shape, groups)

pub gather_rules-gathered-requires : goal.gather_rules-gathered-requires
gather_rules-gathered-requires c = search listed_in

pub returns : goal.returns
returns c = search limited

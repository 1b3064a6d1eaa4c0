use native.Mathlib.Omega.{arith}
use Rattle.lexemes.proofs.Listed.{item_room}
use Rattle.shapes.specs.Shapes.{pair_shape}
use Rattle.grammars.proofs.SynthFunParts.{as_list, pairs}
use Rattle.grammars.proofs.Named.{command_of, grammar_named, new_in, pairs-in, rules-of}
use Rattle.grammars.proofs.read.grammar_names.Goals as goal

pub non_terminals_at-non_terminals-requires : goal.non_terminals_at-non_terminals-requires
non_terminals_at-non_terminals-requires c = search command_of

pub overflow_add-first : goal.overflow_add-first
overflow_add-first c =
    let command = command_of c.requires in
    omega (arith, item_room (pairs command c.non_terminals_at-non_terminals.ensures).here)

pub close_at-close-requires : goal.close_at-close-requires
close_at-close-requires c = search (as_list pair_shape, pairs, command_of)

pub count_items-requires : goal.count_items-requires
count_items-requires c = search pairs-in

pub new_pairs-new-requires : goal.new_pairs-new-requires
new_pairs-new-requires c = search new_in

pub grammar_place-sorts-requires : goal.grammar_place-sorts-requires
grammar_place-sorts-requires c = search command_of

pub write_forms-unknown-requires : goal.write_forms-unknown-requires
write_forms-unknown-requires c =
    rules-of c.requires c.non_terminals_at-non_terminals.ensures c.close_at-close.ensures c.count_items.ensures
    c.new_pairs-new.ensures c.count_nodes.ensures

pub returns : goal.returns
returns c = λ p.
    grammar_named p c.non_terminals_at-non_terminals.ensures c.close_at-close.ensures c.count_items.ensures
    c.new_pairs-new.ensures c.count_nodes.ensures c.grammar_place-sorts.ensures c.write_forms-unknown.ensures
    c.least.ensures c.least-2.ensures

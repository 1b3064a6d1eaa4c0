use Rattle.written_sorts.proofs.HeaderSorts.{grammar_groups, grammar_pairs, grammar-place}
use Rattle.lexemes.proofs.Listed.{list_room}
use native.Mathlib.Omega.{arith}
use Rattle.written_sorts.proofs.headers.grammar_place.Goals as goal

pub overflow_add-at : goal.overflow_add-at
overflow_add-at c = omega (arith, list_room c.requires.here)

pub pairs_in-declared-requires : goal.pairs_in-declared-requires
pairs_in-declared-requires c = search grammar_pairs

pub groups_in-listed-requires : goal.groups_in-listed-requires
groups_in-listed-requires c =
    let arguments = c.next_at.ensures in
    let result = c.next_at-result.ensures in
    let declared = c.next_at-non_terminals.ensures in
    let groups = c.next_at-groups.ensures in
    grammar_groups arguments result declared groups c.requires

pub returns : goal.returns
returns c = search grammar-place

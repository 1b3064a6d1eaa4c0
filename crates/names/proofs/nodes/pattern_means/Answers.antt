use native.Mathlib.Omega.{arith}
use Rattle.names.proofs.Patterns.{kind_small, pattern_room, pattern_symbol, pattern_vector, pattern_width}
use Rattle.names.proofs.nodes.pattern_means.Goals as goal

pub overflow_add-head : goal.overflow_add-head
overflow_add-head c = let h = pattern_room c.requires in omega arith

pub overflow_add-head-then-sort-eq-OPEN : goal.overflow_add-head-then-sort-eq-OPEN
overflow_add-head-then-sort-eq-OPEN c = let h = pattern_room c.requires in omega arith

pub code_with-requires : goal.code_with-requires
code_with-requires c =
    let kind = c.pattern_kind-kind.ensures in
    let width = pattern_width c.requires c.code_at.ensures kind c.code_at-sort.ensures c.if-sort-eq-OPEN.true c.value_at.ensures in
    let small = kind_small c.code_at.result kind in
    omega arith

pub returns-then-sort-eq-OPEN : goal.returns-then-sort-eq-OPEN
returns-then-sort-eq-OPEN c = λ given view. rw c.known_as.ensures (search pattern_vector)

pub returns : goal.returns
returns c = λ given view. search pattern_symbol

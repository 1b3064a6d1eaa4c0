use Rattle.names.specs.code.Table.{row_width}
use Prim.Native.Nat.{◌+◌, ◌*◌}
use native.Mathlib.Omega.{arith}
use Rattle.names.proofs.Lookup.{is_defined, is_function, is_name, is_non_terminal, is_unknown}
use Rattle.names.proofs.meanings.name_means.Goals as goal

pub code_with-requires : goal.code_with-requires
code_with-requires c =
    let b = c.type_inv.names (row_width * (c.args.seen.first + c.find_name-name.result)) in
    omega arith

pub returns-then-name-seen : goal.returns-then-name-seen
returns-then-name-seen c = λ given. rw c.known_as.ensures (search is_name)

pub returns-then-defined-seen : goal.returns-then-defined-seen
returns-then-defined-seen c = λ given. rw c.known_as-then-defined-seen.ensures (search is_defined)

pub returns-then-function-seen : goal.returns-then-function-seen
returns-then-function-seen c = λ given. rw c.known_as-then-function-seen.ensures (search is_function)

pub returns-then-non_terminal-seen : goal.returns-then-non_terminal-seen
returns-then-non_terminal-seen c = λ given. rw c.known_as-then-non_terminal-seen.ensures (search is_non_terminal)

pub returns : goal.returns
returns c = λ given. search is_unknown

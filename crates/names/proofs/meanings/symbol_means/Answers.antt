use native.Mathlib.Omega.{arith}
use Rattle.names.proofs.Symbols.{is-extract, is_literal, is_operator, is_ordinary, operator_codes}
use Rattle.names.proofs.meanings.symbol_means.Goals as goal

pub returns-then-code : goal.returns-then-code
returns-then-code c = λ given. rw c.known_as.ensures (search is_literal)

pub returns-then-code-eq-EXTRACT : goal.returns-then-code-eq-EXTRACT
returns-then-code-eq-EXTRACT c = λ given. rw c.known_as-then-code-eq-EXTRACT.ensures (search is-extract)

pub overflow_sub-code : goal.overflow_sub-code
overflow_sub-code c = (operator_codes c.args.code c.if-code-2.true).0

pub code_with-requires : goal.code_with-requires
code_with-requires c = let h = operator_codes c.args.code c.if-code-2.true in omega arith

pub returns-then-code-2 : goal.returns-then-code-2
returns-then-code-2 c = λ given. rw c.known_as-then-code-2.ensures (search is_operator)

pub name_means-requires : goal.name_means-requires
name_means-requires c = record { seeing = c.requires.seeing; ordinary = search is_ordinary }

use borrow.Author.Tests.{eq-eqb, ne_eqb}
use Rattle.lexemes.specs.code.Codes.{variable_code}
use Rattle.names.proofs.nodes.pattern_kind.Goals as goal

pub returns-then-code-eq-VARIABLE : goal.returns-then-code-eq-VARIABLE
returns-then-code-eq-VARIABLE c = rw (eq-eqb _ variable_code c.if-code-eq-VARIABLE.true)

pub returns-else-code-eq-VARIABLE : goal.returns-else-code-eq-VARIABLE
returns-else-code-eq-VARIABLE c = rw (ne_eqb _ variable_code c.if-code-eq-VARIABLE.false)

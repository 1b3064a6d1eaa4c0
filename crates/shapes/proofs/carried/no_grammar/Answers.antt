use Rattle.shapes.proofs.CarriedTests.{grammar_test}
use Rattle.lexemes.proofs.Listed.{list_room}
use native.Mathlib.Omega.{arith}
use Rattle.shapes.proofs.carried.no_grammar.Goals as goal

pub overflow_add-at : goal.overflow_add-at
overflow_add-at c = omega (arith, list_room c.requires)

pub returns : goal.returns
returns c = search grammar_test

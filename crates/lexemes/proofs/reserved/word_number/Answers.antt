use native.Mathlib.Omega.{arith}
use Rattle.forest.proofs.Searching.{tables_slotted}
use Rattle.operators.proofs.Naming.{operator_bound}
use Rattle.lexemes.proofs.WordNumbers.{number_decimal, number_first, number_long, number_operator}
use Rattle.lexemes.proofs.reserved.word_number.Goals as goal

pub returns-then-is_long : goal.returns-then-is_long
returns-then-is_long c = search number_long

pub returns-then-is_decimal : goal.returns-then-is_decimal
returns-then-is_decimal c = search number_decimal

pub find_word-place-requires : goal.find_word-place-requires
find_word-place-requires c = tables_slotted c.requires.first_are

pub returns-then-place-lt-BEFORE_OPERATORS : goal.returns-then-place-lt-BEFORE_OPERATORS
returns-then-place-lt-BEFORE_OPERATORS c = number_first c.requires.first_are _ c.is_decimal.ensures c.if-is_decimal.false _ c.find_word-place.ensures c.if-place-lt-BEFORE_OPERATORS.true

pub overflow_add-result : goal.overflow_add-result
overflow_add-result c = omega (arith, operator_bound _ c.operator_of.ensures)

pub returns : goal.returns
returns c = number_operator c.requires.first_are _ c.is_decimal.ensures c.if-is_decimal.false _ c.find_word-place.ensures c.if-place-lt-BEFORE_OPERATORS.false c.operator_of.ensures

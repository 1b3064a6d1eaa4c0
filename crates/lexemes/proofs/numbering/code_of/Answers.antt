use native.Mathlib.Omega.{arith}
use Rattle.lexemes.proofs.WordNumbers.{number_bound}
use Rattle.lexemes.proofs.Filling.{code_keyword, code_low, code_symbol}
use Rattle.lexemes.proofs.numbering.code_of.Goals as goal

pub returns-then-kind-lt-WEIGHTS : goal.returns-then-kind-lt-WEIGHTS
returns-then-kind-lt-WEIGHTS c = code_low _ c.if-kind-lt-WEIGHTS.true

pub returns-then-kind-eq-KEYWORD_KIND : goal.returns-then-kind-eq-KEYWORD_KIND
returns-then-kind-eq-KEYWORD_KIND c = code_keyword _ c.if-kind-lt-WEIGHTS.false c.if-kind-eq-KEYWORD_KIND.true c.keyword_code.ensures

pub overflow_add-result : goal.overflow_add-result
overflow_add-result c = omega (arith, number_bound _ c.word_number-number.ensures)

pub returns : goal.returns
returns c = code_symbol _ c.if-kind-lt-WEIGHTS.false c.if-kind-eq-KEYWORD_KIND.false c.word_number-number.ensures

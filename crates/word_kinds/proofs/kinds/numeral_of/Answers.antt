use Rattle.word_kinds.proofs.Forms.{numeral_bad, numeral-digits, numeral_is, numeral_long, numeral_power}
use Rattle.word_kinds.proofs.kinds.numeral_of.Goals as goal

pub returns-then-not-is_numeral : goal.returns-then-not-is_numeral
returns-then-not-is_numeral c = search numeral_bad

pub returns-then-word-gt-NUMERAL_DIGITS : goal.returns-then-word-gt-NUMERAL_DIGITS
returns-then-word-gt-NUMERAL_DIGITS c = search numeral_long

pub spell-requires : goal.spell-requires
spell-requires c = (search numeral-digits, search numeral_power)

pub returns : goal.returns
returns c = search numeral_is

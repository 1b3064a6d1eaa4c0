use Rattle.word_kinds.proofs.Forms.{symbol_bad, symbol_is, symbol_long}
use Rattle.word_kinds.proofs.kinds.symbol_of.Goals as goal

pub returns-then-not-all_in : goal.returns-then-not-all_in
returns-then-not-all_in c = search symbol_bad

pub returns-then-word-gt-SYMBOL_BYTES : goal.returns-then-word-gt-SYMBOL_BYTES
returns-then-word-gt-SYMBOL_BYTES c = search symbol_long

pub returns : goal.returns
returns c = search symbol_is

use Rattle.word_kinds.proofs.ConstantWords.{no_start, started, too_short}
use Rattle.word_kinds.proofs.decimals.is_decimal.Goals as goal

pub returns-then-word-le-START : goal.returns-then-word-le-START
returns-then-word-le-START c = search too_short

pub returns-then-word : goal.returns-then-word
returns-then-word c = search no_start

pub returns : goal.returns
returns c = search started

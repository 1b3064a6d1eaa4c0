use Rattle.checker.proofs.TextsAnswer.{texts_long}
use Rattle.checker.proofs.reading.texts_told.Goals as goal

pub returns-then-long-ne-ACCEPTED : goal.returns-then-long-ne-ACCEPTED
returns-then-long-ne-ACCEPTED c = texts_long c.length_answer-long.ensures c.if-long-ne-ACCEPTED.true

use Rattle.both_texts.proofs.Reading.{lent}
use Rattle.checker.proofs.TextsAnswer.{both_told, one_told}
use Rattle.checker.proofs.reading.told_in.Goals as goal

pub read_texts-told-requires : goal.read_texts-told-requires
read_texts-told-requires c = lent c.response_limits-limits.ensures c.requires.table c.no_places-places.ensures c.requires.rooms

pub returns-then-told-ne-ACCEPTED : goal.returns-then-told-ne-ACCEPTED
returns-then-told-ne-ACCEPTED c = one_told c.response_limits-limits.ensures c.requires.response_value c.read_texts-told.ensures c.if-told-ne-ACCEPTED.true

pub returns : goal.returns
returns c = both_told c.response_limits-limits.ensures c.requires.response_value c.read_texts-told.ensures c.if-told-ne-ACCEPTED.false c.refusal.ensures

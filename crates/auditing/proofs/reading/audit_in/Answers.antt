use Rattle.auditing.proofs.TextsAudited.{all_followed, file_held, one_unfollowed, text_refused}
use Rattle.both_texts.proofs.Reading.{lent}
use Rattle.auditing.proofs.reading.audit_in.Goals as goal

pub read_texts-told-requires : goal.read_texts-told-requires
read_texts-told-requires c = lent c.response_limits-limits.ensures c.requires.table c.no_places-places.ensures c.requires.rooms

pub returns-then-told-ne-ACCEPTED : goal.returns-then-told-ne-ACCEPTED
returns-then-told-ne-ACCEPTED c = text_refused c.response_limits-limits.ensures c.requires.file_texts c.read_texts-told.ensures c.if-told-ne-ACCEPTED.true

pub follow_all-requires : goal.follow_all-requires
follow_all-requires c = file_held c.response_limits-limits.ensures c.requires.file_texts c.read_texts-told.ensures c.if-told-ne-ACCEPTED.false

pub returns-in-Some : goal.returns-in-Some
returns-in-Some c = one_unfollowed c.response_limits-limits.ensures c.requires.file_texts c.read_texts-told.ensures c.if-told-ne-ACCEPTED.false c.in-Some.ensures c.refusal.ensures

pub returns-in-None : goal.returns-in-None
returns-in-None c = all_followed c.response_limits-limits.ensures c.requires.file_texts c.read_texts-told.ensures c.if-told-ne-ACCEPTED.false c.in-None.ensures c.refusal-in-None.ensures

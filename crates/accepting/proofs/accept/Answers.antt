use Rattle.accepting.proofs.TextsAnswer.{bodies_answered, text_declined, to_derive}
use Rattle.accepting.proofs.accept.Goals as goal

pub returns-then-told-ne-ACCEPTED : goal.returns-then-told-ne-ACCEPTED
returns-then-told-ne-ACCEPTED c = rw c.unweighed.ensures (text_declined c.requires.shown_value c.read_texts-told.ensures c.if-told-ne-ACCEPTED.true)

pub derive_bodies-requires : goal.derive_bodies-requires
derive_bodies-requires c = to_derive c.requires.shown_value (c.read_texts-told.ensures.both! c.if-told-ne-ACCEPTED.false)

pub returns : goal.returns
returns c = bodies_answered c.requires.shown_value (c.read_texts-told.ensures.both! c.if-told-ne-ACCEPTED.false) c.derive_bodies.ensures

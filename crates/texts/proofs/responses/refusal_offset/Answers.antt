use Rattle.texts.proofs.responses.refusal_offset.Goals as goal

pub returns-then-number : goal.returns-then-number
returns-then-number c = rw c.if-number.true

pub returns : goal.returns
returns c = rw c.if-number.false c.offset_of.ensures

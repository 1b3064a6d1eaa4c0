use Rattle.response.proofs.HeldToFunction.{command_list, j_low}
use Rattle.response.proofs.BodyTaken.{body_passes, list-in, matched_stops, outline_stops, to_compare}
use Rattle.response.proofs.functions.read_body.Goals as goal

pub outline-outlined-requires : goal.outline-outlined-requires
outline-outlined-requires c = list-in c.requires

pub returns-then-outlined-ne-ACCEPTED : goal.returns-then-outlined-ne-ACCEPTED
returns-then-outlined-ne-ACCEPTED c = outline_stops c.outline-outlined.ensures c.if-outlined-ne-ACCEPTED.true

pub held_to-held-requires : goal.held_to-held-requires
held_to-held-requires c = to_compare c.outline-outlined.ensures c.if-outlined-ne-ACCEPTED.false c.requires

pub returns-then-held-ne-ACCEPTED : goal.returns-then-held-ne-ACCEPTED
returns-then-held-ne-ACCEPTED c = matched_stops c.outline-outlined.ensures c.if-outlined-ne-ACCEPTED.false c.held_to-held.ensures c.if-held-ne-ACCEPTED.true

pub body_word-requires : goal.body_word-requires
body_word-requires c = command_list c.requires

pub put_body-requires : goal.put_body-requires
put_body-requires c = j_low c.requires

pub returns : goal.returns
returns c =
    body_passes c.outline-outlined.ensures c.if-outlined-ne-ACCEPTED.false c.held_to-held.ensures c.if-held-ne-ACCEPTED.false c.body_word.ensures c.start_at-offset.ensures
    c.put_body.ensures

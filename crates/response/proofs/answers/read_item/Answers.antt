use Rattle.response.proofs.ItemRead.{body_asked, body_read, extra_list, extra_read, word_read}
use Rattle.response.proofs.answers.read_item.Goals as goal

pub returns-then-code_at-ne-OPEN : goal.returns-then-code_at-ne-OPEN
returns-then-code_at-ne-OPEN c =
    rw c.verdict.ensures
    (word_read c.code_at.ensures c.if-code_at-ne-OPEN.true)

pub extra-requires : goal.extra-requires
extra-requires c = extra_list c.code_at.ensures c.if-code_at-ne-OPEN.false c.requires

pub returns-then-turn : goal.returns-then-turn
returns-then-turn c = extra_read c.code_at.ensures c.if-code_at-ne-OPEN.false c.if-turn.true c.extra.ensures

pub read_body-requires : goal.read_body-requires
read_body-requires c = body_asked c.code_at.ensures c.if-code_at-ne-OPEN.false c.if-turn.false c.requires

pub returns : goal.returns
returns c = body_read c.code_at.ensures c.if-code_at-ne-OPEN.false c.if-turn.false c.read_body.ensures

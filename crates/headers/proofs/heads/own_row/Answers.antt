use Rattle.headers.proofs.heads.own_row.Goals as goal

pub returns-then-synthesized : goal.returns-then-synthesized
returns-then-synthesized c = rw c.if-synthesized.true

pub returns-else-synthesized : goal.returns-else-synthesized
returns-else-synthesized c = rw c.if-synthesized.false

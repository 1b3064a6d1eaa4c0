use Rattle.headers.proofs.heads.first_row.Goals as goal

pub returns-then-synthesized : goal.returns-then-synthesized
returns-then-synthesized c = rw c.if-synthesized.true

use Rattle.response.proofs.ShapeAndLimits.{extra_passes, extra_stops}
use Rattle.response.proofs.outlines.extra.Goals as goal

pub returns-then-outlined-ne-ACCEPTED : goal.returns-then-outlined-ne-ACCEPTED
returns-then-outlined-ne-ACCEPTED c = extra_stops c.outline-outlined.ensures c.if-outlined-ne-ACCEPTED.true

pub returns : goal.returns
returns c =
    rw c.verdict.ensures
    (extra_passes c.outline-outlined.ensures c.if-outlined-ne-ACCEPTED.false)

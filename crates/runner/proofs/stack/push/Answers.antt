use Rattle.runner.proofs.Holding.{push_full, push_room}
use Rattle.runner.proofs.stack.push.Goals as goal

pub returns-then-top-eq-VALUES : goal.returns-then-top-eq-VALUES
returns-then-top-eq-VALUES c = λ e. push_full e c.if-top-eq-VALUES.true

pub returns : goal.returns
returns c = λ e. push_room e c.if-top-eq-VALUES.false

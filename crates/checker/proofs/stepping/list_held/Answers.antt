use Rattle.checker.proofs.StepsAnswer.{declined, is_listed, unlisted}
use Rattle.checker.proofs.StepsHeld.{texts_listed, to_list_body}
use Rattle.checker.proofs.stepping.list_held.Goals as goal

pub returns-then-found-ne-ACCEPTED : goal.returns-then-found-ne-ACCEPTED
returns-then-found-ne-ACCEPTED c = λ q. declined q.alone q.sized c.if-found-ne-ACCEPTED.true

pub list_body-count-requires : goal.list_body-count-requires
list_body-count-requires c = search to_list_body

pub returns-then-count-eq0 : goal.returns-then-count-eq0
returns-then-count-eq0 c = λ q. unlisted q.alone c.if-found-ne-ACCEPTED.false q.sized (texts_listed q c.if-found-ne-ACCEPTED.false c.list_body-count.ensures) c.if-count-eq0.true c.refused.ensures

pub returns : goal.returns
returns c = λ q. is_listed q.alone c.if-found-ne-ACCEPTED.false q.sized (texts_listed q c.if-found-ne-ACCEPTED.false c.list_body-count.ensures) c.if-count-eq0.false

use Rattle.response.proofs.NoList.{fail_said, infeasible_said, nothing_said, other_said}
use Rattle.response.proofs.answers.read_response.Goals as goal

pub returns-then-nowhere-eq0 : goal.returns-then-nowhere-eq0
returns-then-nowhere-eq0 c =
    rw c.verdict.ensures
    (nothing_said c.if-nowhere-eq0.true)

pub returns-then-code-nowhere : goal.returns-then-code-nowhere
returns-then-code-nowhere c =
    rw c.verdict-then-code-nowhere.ensures
    (fail_said c.if-nowhere-eq0.false c.code_at-code.ensures c.if-code-eq-OPEN.false c.if-code-nowhere.true)

pub returns-then-code-nowhere-2 : goal.returns-then-code-nowhere-2
returns-then-code-nowhere-2 c =
    rw c.verdict-then-code-nowhere-2.ensures
    (infeasible_said c.if-nowhere-eq0.false c.code_at-code.ensures c.if-code-eq-OPEN.false c.if-code-nowhere.false c.if-code-nowhere-2.true)

pub returns : goal.returns
returns c =
    rw c.verdict-2.ensures
    (other_said c.if-nowhere-eq0.false c.code_at-code.ensures c.if-code-eq-OPEN.false c.if-code-nowhere.false c.if-code-nowhere-2.false)

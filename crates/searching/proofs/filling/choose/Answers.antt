use Rattle.searching.proofs.Uses.{search_better, search_not, search_end, search_none}
use Rattle.searching.proofs.filling.choose.Goals.{then-better, else-better}
use Rattle.searching.proofs.filling.choose.Goals as goal

pub loop-number-preserved : goal.loop-number-preserved
loop-number-preserved c =
    let inv = c.loop-number.invariant in
    elim c.if-better.branch [
      | then-better w ↦ rw (w.best-is, w.least-is) (search_better inv c.loop-number-test.true c.price-cost.ensures c.better.ensures w.if-better.true)
      | else-better w ↦ rw (w.best-is, w.least-is) (search_not inv c.loop-number-test.true c.price-cost.ensures c.better.ensures w.if-better.false)
    ]

pub returns-then-least-eq0 : goal.returns-then-least-eq0
returns-then-least-eq0 c = search_none c.loop-number.invariant c.loop-number-test.false c.if-least-eq0.true

pub returns : goal.returns
returns c = (c.if-least-eq0.false, search_end c.loop-number.invariant c.loop-number-test.false)

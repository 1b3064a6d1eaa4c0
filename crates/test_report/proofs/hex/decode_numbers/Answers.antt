use Rattle.std.proofs.Common.{sym, arith, length-set, length-take-le}
use Rattle.test_report.proofs.hex.decode_numbers.Goals as goal

pub loop-at-smaller : goal.loop-at-smaller
loop-at-smaller c = omega (arith, c.if-i-numbers.true)

pub loop-at-preserved : goal.loop-at-preserved
loop-at-preserved c =
    (omega arith, (simp length-set (omega (arith, c.if-i-numbers.true)), simp length-set (omega arith)))

pub returns-else-i-numbers : goal.returns-else-i-numbers
returns-else-i-numbers c = (omega arith, sym (length-take-le _ _ (omega arith)))

pub returns-after-loop-at : goal.returns-after-loop-at
returns-after-loop-at c = (omega arith, sym (length-take-le _ _ (omega arith)))

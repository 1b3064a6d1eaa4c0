use native.Mathlib.Omega.{arith}
use Rattle.word_kinds.proofs.ConstantWords.{value_ends, value_goes, value_least}
use Rattle.word_kinds.proofs.decimals.decimal_value.Goals as goal

pub returns-in_err-checked_mul : goal.returns-in_err-checked_mul
returns-in_err-checked_mul c =
    let least = value_least c.args.word.now c.loop-i.i c.loop-i.value c.loop-i.invariant.0 c.loop-i-test.true in
    rw c.from_residual.ensures (λ small. c.in_err-checked_mul.ensures (omega arith))

pub returns-in_err-value : goal.returns-in_err-value
returns-in_err-value c =
    let least = value_least c.args.word.now c.loop-i.i c.loop-i.value c.loop-i.invariant.0 c.loop-i-test.true in
    rw c.from_residual-in_err-value.ensures (λ small. c.in_err-value.ensures (omega (arith, c.in_ok-checked_mul.ensures, c.digit_value.ensures)))

pub loop-i-preserved : goal.loop-i-preserved
loop-i-preserved c =
    let goes = value_goes c.args.word.now c.loop-i.i c.loop-i.value c.loop-i.invariant.0 c.loop-i-test.true in
    (rw (c.in_ok-value.ensures.1, c.in_ok-checked_mul.ensures.1, c.digit_value.ensures) goes, omega (arith, c.in_ok-value.ensures))

pub returns : goal.returns
returns c =
    let ends = value_ends c.args.word.now c.loop-i.i c.loop-i.value c.loop-i.invariant.0 c.loop-i-test.false in
    (omega arith, ends)

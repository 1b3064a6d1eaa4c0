use mathlib.Core.Path.{◌∙◌}
use native.Mathlib.Omega.{arith}
use Rattle.evaluation.proofs.CostTurns.{ends_within, size_some, sum_body, sum_end, sum_other, sum_start}
use Rattle.evaluation.proofs.costs.cost_at.Goals as goal
use Rattle.evaluation.proofs.costs.cost_at.Goals.{else-place-lt-BODIES, then-place-lt-BODIES}

pub overflow_add-j-end : goal.overflow_add-j-end
overflow_add-j-end c = omega (arith, ends_within c.requires c.size_at-size.ensures)

pub overflow_sub-sum : goal.overflow_sub-sum
overflow_sub-sum c = size_some c.requires c.size_at-size.ensures

pub loop-j-init : goal.loop-j-init
loop-j-init c = let n = c.size_at-size.ensures in
    (omega (arith, n), ends_within c.requires n, λ e. sum_start e n)

pub loop-j-preserved : goal.loop-j-preserved
loop-j-preserved c = let code = c.code_at.ensures in
    let value = c.value_at.ensures in
    let place = c.body_place-place.ensures in (
      elim c.if-place-lt-BODIES.branch [ then-place-lt-BODIES w ↦ omega arith | else-place-lt-BODIES w ↦ omega arith ],
      c.loop-j.invariant.1,
      λ e.
          let r = c.loop-j.invariant.2 e in
          let h = c.loop-j-test.true in
          elim c.if-place-lt-BODIES.branch [
            | then-place-lt-BODIES w ↦ sum_body e r h code value place w.if-place-lt-BODIES.true w.entry_at.ensures w.saturating_add.ensures (w.sum-is ∙ w.saturating_add-sum.ensures)
            | else-place-lt-BODIES w ↦ sum_other e r h code value place w.if-place-lt-BODIES.false w.sum-is
          ],
    )

pub returns : goal.returns
returns c = λ e. sum_end e (c.loop-j.invariant.2 e) c.loop-j-test.false c.loop-j.invariant.0

use Rattle.evaluation.proofs.Runs.{next_front, term_ended, term_evaluable, term_false, term_true, terms_end}
use native.Mathlib.Omega.{arith}
use Rattle.evaluation.proofs.running.run_terms.Goals as goal

pub returns-then-left-cost : goal.returns-then-left-cost
returns-then-left-cost c = λ e.
    let r = c.loop-k.invariant in
    (term_ended e _ _ (r.1 e) c.loop-k-test.true c.if-left-cost.true, (r.1 e).front)

pub eval_term-value-requires : goal.eval_term-value-requires
eval_term-value-requires c = let e = c.requires in
    let r = c.loop-k.invariant in
    term_evaluable e _ _ (r.1 e) c.loop-k-test.true r.0 c.if-left-cost.false

pub returns-then-value-ne1 : goal.returns-then-value-ne1
returns-then-value-ne1 c = λ e.
    let r = c.loop-k.invariant in
    let turn = c.loop-k-test.true in
    let cheap = c.if-left-cost.false in
    let got = c.eval_term-value.ensures in
    (term_false e _ _ (r.1 e) turn r.0 cheap got c.if-value-ne1.true, next_front e _ _ (r.1 e) turn r.0 cheap got)

pub loop-k-preserved : goal.loop-k-preserved
loop-k-preserved c = let r = c.loop-k.invariant in (
  omega (arith, r.0),
  λ e. term_true e _ _ (r.1 e) c.loop-k-test.true r.0 c.if-left-cost.false c.eval_term-value.ensures c.if-value-ne1.false,
)

pub returns : goal.returns
returns c = λ e. let r = c.loop-k.invariant.1 e in (terms_end e _ _ r c.loop-k-test.false, r.front)

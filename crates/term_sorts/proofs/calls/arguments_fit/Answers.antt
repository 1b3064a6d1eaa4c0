use Rattle.term_sorts.proofs.Arguments.{fitting_ends, fitting_fails, fitting_goes, fitting_room, fitting_some}
use native.Mathlib.Omega.{arith}
use Rattle.term_sorts.proofs.calls.arguments_fit.Goals as goal

pub overflow_sub-sort_at : goal.overflow_sub-sort_at
overflow_sub-sort_at c =
    let pre = c.requires in
    omega (arith, fitting_some c.loop-argument.invariant c.loop-argument-test.true pre)

pub returns-then-sort_at-signature_at : goal.returns-then-sort_at-signature_at
returns-then-sort_at-signature_at c = search fitting_fails

pub overflow_add-here : goal.overflow_add-here
overflow_add-here c =
    let pre = c.requires in
    omega (arith, fitting_room c.loop-argument.invariant c.loop-argument-test.true pre)

pub loop-argument-preserved : goal.loop-argument-preserved
loop-argument-preserved c =
    fitting_goes c.loop-argument.invariant c.loop-argument-test.true
    c.sort_at.ensures c.signature_at.ensures c.if-sort_at-signature_at.false c.size_at-here.ensures

pub returns : goal.returns
returns c = search fitting_ends

use mathlib.Core.Bool.{not}
use mathlib.Core.Path.{ap}
use native.Mathlib.Omega.{arith}
use Rattle.following.proofs.Fit.{end_small, inv_start, miss_hole, miss_node, turn_asks, turn_end, turn_here, turn_hole, turn_node, turn_over}
use Rattle.following.proofs.Whole.{use_fails, use_fits, use_gives, use_on}
use Rattle.following.proofs.+fit_rule_use_rule.Goals.{fit_rule-then-code_at-eq-NON_TERMINAL+in_ok-next, fit_rule-else-code_at-eq-NON_TERMINAL+else-not-alike}
use Rattle.following.proofs.+fit_rule_use_rule.Goals as goal

pub fit_rule-overflow_add-end : goal.fit_rule-overflow_add-end
fit_rule-overflow_add-end t c = omega (arith, end_small c.requires c.start_at-start.ensures c.size_at.ensures)

pub fit_rule-loop-place-init : goal.fit_rule-loop-place-init
fit_rule-loop-place-init t c = search inv_start

pub fit_rule-use_rule-requires : goal.fit_rule-use_rule-requires
fit_rule-use_rule-requires t c =
    let loop = c.loop-place in
    let asks = turn_asks loop.invariant c.loop-place-test.true c.code_at.ensures c.if-code_at-eq-NON_TERMINAL.true c.value_at.ensures in
    (omega (arith, loop.invariant.after, loop.invariant.within), asks)

pub fit_rule-returns-in_err-next : goal.fit_rule-returns-in_err-next
fit_rule-returns-in_err-next t c =
    rw c.from_residual.ensures
    (miss_hole c.loop-place.invariant c.loop-place-test.true
    c.code_at.ensures c.if-code_at-eq-NON_TERMINAL.true c.value_at.ensures c.in_err-next.ensures)

pub fit_rule-overflow_add-here : goal.fit_rule-overflow_add-here
fit_rule-overflow_add-here t c = omega (arith, turn_over c.loop-place.invariant c.loop-place-test.true c.size_at-here.ensures)

pub fit_rule-returns-then-not-alike : goal.fit_rule-returns-then-not-alike
fit_rule-returns-then-not-alike t c =
    miss_node c.loop-place.invariant c.loop-place-test.true
    c.code_at.ensures c.if-code_at-eq-NON_TERMINAL.false c.alike.ensures (ap not c.if-not-alike.true)

pub fit_rule-overflow_add-here-else-code_at-eq-NON_TERMINAL : goal.fit_rule-overflow_add-here-else-code_at-eq-NON_TERMINAL
fit_rule-overflow_add-here-else-code_at-eq-NON_TERMINAL t c = omega (arith, turn_here c.loop-place.invariant c.loop-place-test.true)

pub fit_rule-loop-place-preserved : goal.fit_rule-loop-place-preserved
fit_rule-loop-place-preserved t c =
    let inv = c.loop-place.invariant in
    let more = c.loop-place-test.true in
    let code = c.code_at.ensures in
    elim c.if-code_at-eq-NON_TERMINAL.branch [
      | fit_rule-then-code_at-eq-NON_TERMINAL+in_ok-next w ↦ rw (w.here-is, w.next-is) (turn_hole inv more code w.if-code_at-eq-NON_TERMINAL.true w.value_at.ensures w.in_ok-next.ensures w.size_at-here.ensures)
      | fit_rule-else-code_at-eq-NON_TERMINAL+else-not-alike w ↦ rw (w.here-is, w.next-is) (turn_node inv more code w.if-code_at-eq-NON_TERMINAL.false w.alike.ensures (ap not w.if-not-alike.false))
    ]

pub fit_rule-returns : goal.fit_rule-returns
fit_rule-returns t c = search turn_end

pub use_rule-returns-in_err-last : goal.use_rule-returns-in_err-last
use_rule-returns-in_err-last t c = rw c.from_residual.ensures (use_fails c.in_err-last.ensures)

pub use_rule-fit_rule-requires : goal.use_rule-fit_rule-requires
use_rule-fit_rule-requires t c =
    let chain = c.in_ok-last.ensures in
    let on = use_on chain c.requires in
    (omega arith, use_fits chain c.requires)

pub use_rule-returns : goal.use_rule-returns
use_rule-returns t c = use_gives c.in_ok-last.ensures c.fit_rule.result c.fit_rule.ensures

use mathlib.Core.Bool.{not}
use mathlib.Core.Path.{ap}
use native.Mathlib.Omega.{arith}
use Rattle.searching.proofs.RuleWalk.{end_small}
use Rattle.searching.proofs.Pricing.{inv_start, miss_hole, miss_node, turn_end, turn_here, turn_hole, turn_low, turn_node, turn_over, turn_sum, weight_light}
use Rattle.searching.proofs.matching.rank_of.Goals.{else-code_at-eq-NON_TERMINAL+else-not-alike, then-code_at-eq-NON_TERMINAL+else-not-has}
use Rattle.searching.proofs.matching.rank_of.Goals as goal

pub overflow_add-end : goal.overflow_add-end
overflow_add-end c = omega (arith, end_small c.requires c.start_at-start.ensures c.size_at.ensures)

pub overflow_mul-sum : goal.overflow_mul-sum
overflow_mul-sum c = omega (arith, weight_light c.requires c.weight_at.ensures)

pub overflow_add-sum : goal.overflow_add-sum
overflow_add-sum c = omega (arith, weight_light c.requires c.weight_at.ensures)

pub loop-place-init : goal.loop-place-init
loop-place-init c = search inv_start

pub has-requires : goal.has-requires
has-requires c = search turn_low

pub returns-then-not-has : goal.returns-then-not-has
returns-then-not-has c = search miss_hole

pub rank_at-sum-requires : goal.rank_at-sum-requires
rank_at-sum-requires c = search turn_low

pub overflow_add-sum-then-code_at-eq-NON_TERMINAL : goal.overflow_add-sum-then-code_at-eq-NON_TERMINAL
overflow_add-sum-then-code_at-eq-NON_TERMINAL c =
    omega (
      arith,
      turn_sum c.loop-place.invariant c.loop-place-test.true c.code_at.ensures c.if-code_at-eq-NON_TERMINAL.true c.value_at-nonterminal.ensures c.mask_at.ensures
          c.has.ensures (ap not c.if-not-has.false) c.rank_at-sum.ensures,
    )

pub overflow_add-here : goal.overflow_add-here
overflow_add-here c = omega (arith, turn_over c.loop-place.invariant c.loop-place-test.true c.size_at-here.ensures)

pub returns-then-not-alike : goal.returns-then-not-alike
returns-then-not-alike c = search miss_node

pub overflow_add-here-else-code_at-eq-NON_TERMINAL : goal.overflow_add-here-else-code_at-eq-NON_TERMINAL
overflow_add-here-else-code_at-eq-NON_TERMINAL c = omega (arith, turn_here c.loop-place.invariant c.loop-place-test.true)

pub loop-place-preserved : goal.loop-place-preserved
loop-place-preserved c =
    let inv = c.loop-place.invariant in
    let more = c.loop-place-test.true in
    let code = c.code_at.ensures in
    elim c.if-code_at-eq-NON_TERMINAL.branch [
      | then-code_at-eq-NON_TERMINAL+else-not-has w ↦ rw (w.here-is, w.sum-is) (turn_hole inv more code w.if-code_at-eq-NON_TERMINAL.true w.value_at-nonterminal.ensures w.mask_at.ensures w.has.ensures (ap not w.if-not-has.false) w.rank_at-sum.ensures w.size_at-here.ensures)
      | else-code_at-eq-NON_TERMINAL+else-not-alike w ↦ rw (w.here-is, w.sum-is) (turn_node inv more code w.if-code_at-eq-NON_TERMINAL.false w.alike.ensures (ap not w.if-not-alike.false))
    ]

pub returns : goal.returns
returns c = search turn_end

use native.Mathlib.Omega.{arith}
use mathlib.Core.Path.{◌∙◌}
use Rattle.searching.proofs.RuleWalk.{end_small}
use Rattle.searching.proofs.Whole.{follow_pre, spread_pre, emit_post}
use Rattle.searching.proofs.Track.{spread_start, spread_end, spread_here, spread_over, spread_node, spread_after, spread_asks, spread_hole}
use Rattle.searching.proofs.showing.+emit_spread.Goals.{spread-else-code_at-eq-NON_TERMINAL, spread-then-code_at-eq-NON_TERMINAL}
use Rattle.searching.proofs.showing.+emit_spread.Goals as goal

pub emit-follow-end-requires : goal.emit-follow-end-requires
emit-follow-end-requires t c = follow_pre c.requires

pub emit-spread-requires : goal.emit-spread-requires
emit-spread-requires t c =
    let followed = c.follow-end.ensures (follow_pre c.requires) in
    (omega arith, spread_pre c.requires followed)

pub emit-shape_of-shown : goal.emit-shape_of-shown
emit-shape_of-shown t c = c.spread.auto.shown ∙ c.follow-end.auto.shown

pub emit-returns : goal.emit-returns
emit-returns t c = λ e.
    let f = c.follow-end.ensures (follow_pre e) in
    emit_post e f (c.spread.ensures (spread_pre e f))

pub spread-overflow_add-end : goal.spread-overflow_add-end
spread-overflow_add-end t c =
    omega (
      arith,
      end_small c.requires.rule_asks c.start_at-start.ensures
          c.size_at.ensures,
    )

pub spread-loop-place-init : goal.spread-loop-place-init
spread-loop-place-init t c = search spread_start

pub spread-emit-next-requires : goal.spread-emit-next-requires
spread-emit-next-requires t c =
    let loop = c.loop-place in
    let taken = c.loop-place-test.true in
    let code = c.code_at.ensures in
    let hole = c.if-code_at-eq-NON_TERMINAL.true in
    let after = spread_after loop.invariant taken code hole in
    (omega arith, spread_asks loop.invariant taken code hole c.value_at.ensures)

pub spread-overflow_add-here : goal.spread-overflow_add-here
spread-overflow_add-here t c =
    omega (
      arith,
      spread_over c.loop-place.invariant
          c.loop-place-test.true c.size_at-here.ensures,
    )

pub spread-overflow_add-here-else-code_at-eq-NON_TERMINAL : goal.spread-overflow_add-here-else-code_at-eq-NON_TERMINAL
spread-overflow_add-here-else-code_at-eq-NON_TERMINAL t c = omega (arith, spread_here c.loop-place.invariant c.loop-place-test.true)

pub spread-loop-place-preserved : goal.spread-loop-place-preserved
spread-loop-place-preserved t c =
    let inv = c.loop-place.invariant in
    let more = c.loop-place-test.true in
    let code = c.code_at.ensures in
    elim c.if-code_at-eq-NON_TERMINAL.branch [
      | spread-then-code_at-eq-NON_TERMINAL w ↦ rw (w.shown-is, w.here-is, w.next-is) (spread_hole inv more code w.if-code_at-eq-NON_TERMINAL.true w.value_at.ensures w.emit-next.ensures w.size_at-here.ensures w.emit-next.auto.shown)
      | spread-else-code_at-eq-NON_TERMINAL w ↦ rw (w.shown-is, w.here-is, w.next-is) (spread_node inv more code w.if-code_at-eq-NON_TERMINAL.false)
    ]

pub spread-shape_of-shown : goal.spread-shape_of-shown
spread-shape_of-shown t c = c.loop-place.invariant.same_long

pub spread-returns : goal.spread-returns
spread-returns t c = search spread_end

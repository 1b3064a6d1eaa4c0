use native.Mathlib.Omega.{arith}
use Rattle.words.proofs.Offsets.{end_past, end_within, found_inside, found_is, found_none, seek_begins, seek_goes, seek_less}
use Rattle.words.proofs.word_at.Goals as goal

pub loop-start-init : goal.loop-start-init
loop-start-init c = search seek_begins

pub loop-start-smaller : goal.loop-start-smaller
loop-start-smaller c = search seek_less

pub loop-start-preserved : goal.loop-start-preserved
loop-start-preserved c = search seek_goes

pub slice_bounds-result-count : goal.slice_bounds-result-count
slice_bounds-result-count c = omega (arith, end_past _ _ _ c.word_end-end.ensures)

pub slice_bounds-result-start : goal.slice_bounds-result-start
slice_bounds-result-start c = omega (arith, end_past _ _ _ c.word_end-end.ensures)

pub slice_bounds-result-end : goal.slice_bounds-result-end
slice_bounds-result-end c = end_within _ _ _ c.word_end-end.ensures (found_inside _ _ _ c.loop-start.invariant c.if-start-at.true)

pub returns-then-start-at : goal.returns-then-start-at
returns-then-start-at c = search found_is

pub returns : goal.returns
returns c = search found_none

use native.Mathlib.Omega.{arith}
use Rattle.words.proofs.Offsets.{end_past, end_within, next_less}
use Rattle.words.proofs.ScanTurns.{scan_begins, scan_ends, scan_goes, scan_stops, word_fits}
use Rattle.words.proofs.scan.scan_text.Goals as goal

pub loop-start-init : goal.loop-start-init
loop-start-init c = search scan_begins

pub slice_bounds-kind_of-count : goal.slice_bounds-kind_of-count
slice_bounds-kind_of-count c = omega (arith, end_past _ _ _ c.word_end-end.ensures)

pub slice_bounds-kind_of-start : goal.slice_bounds-kind_of-start
slice_bounds-kind_of-start c = omega (arith, end_past _ _ _ c.word_end-end.ensures)

pub slice_bounds-kind_of-end : goal.slice_bounds-kind_of-end
slice_bounds-kind_of-end c = search end_within

pub returns-in-Some : goal.returns-in-Some
returns-in-Some c = scan_stops c.loop-start.invariant c.loop-start-test.true _ c.word_end-end.ensures _ c.kind_of-kind.ensures c.in-Some.ensures

pub put_word-requires : goal.put_word-requires
put_word-requires c =
    word_fits c.loop-start.invariant c.loop-start-test.true _ c.word_end-end.ensures _ c.kind_of-kind.ensures
    c.in_default.ensures c.requires.1 c.requires.2 c.requires.0

pub loop-start-smaller : goal.loop-start-smaller
loop-start-smaller c = search next_less

pub loop-start-preserved : goal.loop-start-preserved
loop-start-preserved c =
    scan_goes c.loop-start.invariant c.loop-start-test.true _ c.word_end-end.ensures _ c.kind_of-kind.ensures
    c.in_default.ensures c.requires.1 c.requires.2 _ _ c.put_word.ensures _ c.depth_after-depth.ensures _ c.first_start-start-in-loop-start.ensures

pub returns : goal.returns
returns c = search scan_ends

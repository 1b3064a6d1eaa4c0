use mathlib.Core.Bool.{not}
use Rattle.evaluation.proofs.PointRuns.{point_within, points-end, stated_costing, here_held, last_long, no_points, point_passed, point_runnable, point_stopped}
use native.Mathlib.Omega.{arith}
use mathlib.Core.Path.{ap}
use Rattle.evaluation.proofs.running.run_points.Goals as goal

pub returns-then-count-eq0 : goal.returns-then-count-eq0
returns-then-count-eq0 c = λ e. no_points e _ c.point_count-count.ensures c.if-count-eq0.true

pub term_costs-prices-requires : goal.term_costs-prices-requires
term_costs-prices-requires c = stated_costing c.requires c.point_count-count.ensures c.if-count-eq0.false

pub overflow_mul-start : goal.overflow_mul-start
overflow_mul-start c = let e = c.requires in
    let h = point_within e (c.loop-point.invariant.1 e) c.point_count-count.ensures c.loop-point-test.true in
    omega (arith, h)

pub overflow_add-start : goal.overflow_add-start
overflow_add-start c = let e = c.requires in
    let h = point_within e (c.loop-point.invariant.1 e) c.point_count-count.ensures c.loop-point-test.true in
    omega (arith, h)

pub offset_bounds-numbers-start : goal.offset_bounds-numbers-start
offset_bounds-numbers-start c = let e = c.requires in
    let h = point_within e (c.loop-point.invariant.1 e) c.point_count-count.ensures c.loop-point-test.true in
    omega (arith, h)

pub slice_bounds-put_point-end-in-loop-point : goal.slice_bounds-put_point-end-in-loop-point
slice_bounds-put_point-end-in-loop-point c = let e = c.requires in
    point_within e (c.loop-point.invariant.1 e) c.point_count-count.ensures c.loop-point-test.true

pub run_point-here-requires : goal.run_point-here-requires
run_point-here-requires c = let e = c.requires in
    let r = c.loop-point.invariant in
    point_runnable e (r.1 e) c.point_count-count.ensures c.loop-point-test.true c.term_costs-prices.ensures r.0 c.put_point.ensures

pub overflow_add-held : goal.overflow_add-held
overflow_add-held c = let e = c.requires in
    let r = c.loop-point.invariant in
    let there = c.loop-point-test.true in
    let one = here_held e (r.1 e) c.point_count-count.ensures there c.run_point-here.new.stack c.term_costs-prices.ensures r.0 c.put_point.ensures
    c.left-left.ensures c.run_point-here.ensures in
    omega (arith, (r.1 e).few, one, there)

pub returns-then-not-all_passed : goal.returns-then-not-all_passed
returns-then-not-all_passed c = λ e.
    let r = c.loop-point.invariant in
    point_stopped e (r.1 e) c.point_count-count.ensures c.loop-point-test.true c.run_point-here.new.stack c.term_costs-prices.ensures r.0 c.put_point.ensures
    c.left-left.ensures c.run_point-here.ensures c.all_passed.ensures (ap not c.if-not-all_passed.true)

pub loop-point-preserved : goal.loop-point-preserved
loop-point-preserved c = let r = c.loop-point.invariant in
    let counted = c.point_count-count.ensures in
    let there = c.loop-point-test.true in
    let told = c.term_costs-prices.ensures in
    let put = c.put_point.ensures in
    let left = c.left-left.ensures in
    let last = c.run_point-here.new.stack in
    let got = c.run_point-here.ensures in (
      let e = c.requires in last_long e (r.1 e) counted there last told r.0 put left got,
      λ e. point_passed e (r.1 e) counted there last told r.0 put left got c.all_passed.ensures (ap not c.if-not-all_passed.false),
    )

pub returns : goal.returns
returns c = λ e. points-end e (c.loop-point.invariant.1 e) c.point_count-count.ensures c.loop-point-test.false

use mathlib.Core.Path.{◌∙◌}
use Rattle.verdicts.proofs.PointsAnswer.{budget_left, constrained, outcome_by, run_evaluated, sorts_long, sorts_small}
use Rattle.verdicts.proofs.evaluate.evaluate.Goals as goal

pub slice_bounds-points_of-end : goal.slice_bounds-points_of-end
slice_bounds-points_of-end c = sorts_long c.requires c.variable_sorts-sorts.ensures

pub points_of-list-requires : goal.points_of-list-requires
points_of-list-requires c = sorts_small c.requires c.variable_sorts-sorts.ensures

pub slice_bounds-run_stated-end : goal.slice_bounds-run_stated-end
slice_bounds-run_stated-end c = sorts_long c.requires c.variable_sorts-sorts.ensures

pub run_stated-requires : goal.run_stated-requires
run_stated-requires c =
    constrained c.requires c.variable_sorts-sorts.ensures c.args.points.now c.points_of-list.ensures c.in-Ok.is

pub run_outcome-requires : goal.run_outcome-requires
run_outcome-requires c =
    let good = c.in-Ok.is in
    budget_left c.requires c.variable_sorts-sorts.ensures c.args.points.now c.points_of-list.ensures good c.args.budget
    c.run_stated.ensures

pub returns-in-Err : goal.returns-in-Err
returns-in-Err c = λ q.
    let args = c.args in
    let read = c.variable_sorts-sorts.ensures in
    let tested = c.points_of-list.ensures in
    c.points_answer.ensures ∙ outcome_by q read args.points.now tested c.in-Err.is args.budget

pub returns-in-Ok : goal.returns-in-Ok
returns-in-Ok c = λ q.
    let args = c.args in
    let read = c.variable_sorts-sorts.ensures in
    let tested = c.points_of-list.ensures in
    let good = c.in-Ok.is in
    run_evaluated q read args.points.now tested good args.budget c.run_stated.ensures c.run_outcome.ensures

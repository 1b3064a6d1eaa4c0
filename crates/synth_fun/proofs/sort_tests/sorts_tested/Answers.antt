use native.Mathlib.Omega.{arith}
use Rattle.synth_fun.proofs.SortsSought.{comparing_here, forms_start, header_at, listing_here, sorting_here}
use Rattle.synth_fun.proofs.FunctionHeld.{putting_here}
use Rattle.synth_fun.proofs.SortVerdicts.{all-passed, asked_here, dead_refused, lists_refused, same_verdict, sorts_refused}
use Rattle.synth_fun.proofs.sort_tests.sorts_tested.Goals as goal

pub overflow_mul-own : goal.overflow_mul-own
overflow_mul-own c =
    omega (arith, forms_start c.requires)

pub offset_bounds-forms-command : goal.offset_bounds-forms-command
offset_bounds-forms-command c =
    omega (arith, forms_start c.requires)

pub slice_bounds-own-count : goal.slice_bounds-own-count
slice_bounds-own-count c =
    forms_start c.requires

pub slice_bounds-own-start : goal.slice_bounds-own-start
slice_bounds-own-start c =
    forms_start c.requires

pub put_sorts-requires : goal.put_sorts-requires
put_sorts-requires c =
    listing_here c.requires

pub header_place-head-requires : goal.header_place-head-requires
header_place-head-requires c =
    header_at c.requires

pub grammar_sorts-within-requires : goal.grammar_sorts-within-requires
grammar_sorts-within-requires c =
    sorting_here c.requires c.put_sorts.ensures c.no_sorts-column.ensures

pub returns-then-place-nowhere : goal.returns-then-place-nowhere
returns-then-place-nowhere c =
    λ s. same_verdict c.verdict.ensures
    (sorts_refused s c.put_sorts.ensures c.no_sorts-column.ensures c.grammar_sorts-within.ensures c.header_place-head.ensures
    c.least-place.ensures c.if-place-nowhere.true)

pub misfit_place-misfit-requires : goal.misfit_place-misfit-requires
misfit_place-misfit-requires c =
    comparing_here c.requires c.put_sorts.ensures c.no_sorts-column.ensures c.grammar_sorts-within.ensures

pub returns-then-misfit-nowhere : goal.returns-then-misfit-nowhere
returns-then-misfit-nowhere c =
    λ s. same_verdict c.verdict-then-misfit-nowhere.ensures
    (lists_refused s c.put_sorts.ensures c.no_sorts-column.ensures c.grammar_sorts-within.ensures c.header_place-head.ensures
    c.least-place.ensures c.if-place-nowhere.false c.misfit_place-misfit.ensures c.if-misfit-nowhere.true)

pub put_function-requires : goal.put_function-requires
put_function-requires c =
    putting_here c.requires c.put_sorts.ensures

pub dead_place-dead-requires : goal.dead_place-dead-requires
dead_place-dead-requires c =
    asked_here c.requires c.put_sorts.ensures c.no_sorts-column.ensures c.grammar_sorts-within.ensures c.header_place-head.ensures
    c.least-place.ensures c.if-place-nowhere.false c.misfit_place-misfit.ensures c.if-misfit-nowhere.false c.put_function.ensures

pub returns-then-dead-nowhere : goal.returns-then-dead-nowhere
returns-then-dead-nowhere c =
    λ s. same_verdict c.verdict-then-dead-nowhere.ensures
    (dead_refused s c.put_sorts.ensures c.no_sorts-column.ensures c.grammar_sorts-within.ensures c.header_place-head.ensures
    c.least-place.ensures c.if-place-nowhere.false c.misfit_place-misfit.ensures c.if-misfit-nowhere.false c.put_function.ensures
    c.dead_place-dead.ensures c.if-dead-nowhere.true)

pub returns : goal.returns
returns c =
    λ s. same_verdict c.verdict-2.ensures
    (all-passed s c.put_sorts.ensures c.no_sorts-column.ensures c.grammar_sorts-within.ensures c.header_place-head.ensures
    c.least-place.ensures c.if-place-nowhere.false c.misfit_place-misfit.ensures c.if-misfit-nowhere.false c.put_function.ensures
    c.dead_place-dead.ensures c.if-dead-nowhere.false)

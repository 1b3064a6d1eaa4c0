use mathlib.Core.Path.{refl}
use Rattle.forest.specs.code.Rows.{number_at}
use Rattle.forest.proofs.Rows.{past, row_high, row_low, row_within}
use native.Mathlib.Omega.{arith}
use Rattle.forest.proofs.numbers.number_at.Goals as goal

pub overflow_mul-result : goal.overflow_mul-result
overflow_mul-result c =
    let a = c.args in
    record { fits = omega (arith, row_within a.width a.row a.column _ c.requires.column_lt_width c.if-row-table.true) }

pub overflow_add-result : goal.overflow_add-result
overflow_add-result c =
    let a = c.args in
    record { fits = omega (arith, row_within a.width a.row a.column _ c.requires.column_lt_width c.if-row-table.true) }

pub offset_bounds-table-width : goal.offset_bounds-table-width
offset_bounds-table-width c =
    let a = c.args in
    record { fits = omega (arith, row_within a.width a.row a.column _ c.requires.column_lt_width c.if-row-table.true) }

pub bounds-table-width : goal.bounds-table-width
bounds-table-width c =
    let a = c.args in
    row_within a.width a.row a.column _ c.requires.column_lt_width c.if-row-table.true

pub returns-then-row-table : goal.returns-then-row-table
unfolding number_at
returns-then-row-table c = refl

pub returns-then-row-table-2 : goal.returns-then-row-table-2
returns-then-row-table-2 c =
    let a = c.args in
    past a.width _ a.row a.column (omega (arith, row_low a.width a.row a.column c.requires.column_lt_width))

pub overflow_mul-width : goal.overflow_mul-width
overflow_mul-width c =
    record { fits = omega (arith, row_high c.args.width c.args.row c.args.column c.requires.column_lt_width c.requires.width_le_widest) }

pub overflow_add-width : goal.overflow_add-width
overflow_add-width c =
    record { fits = omega (arith, row_high c.args.width c.args.row c.args.column c.requires.column_lt_width c.requires.width_le_widest) }

pub returns : goal.returns
unfolding number_at
returns c = c.entry_at.ensures

use native.Mathlib.Omega.{arith}
use mathlib.Core.Path.{◌≡◌}
use borrow.Author.Rules.{rules}
use Rattle.verdicts.proofs.DeriveTurns.{going_done, going_fails, going_start, going_turn, next_derivable}
use Rattle.verdicts.proofs.derive.derive_all.Goals as goal

pub loop-function-init : goal.loop-function-init
loop-function-init c q = going_start q

pub derive_one-requires : goal.derive_one-requires
derive_one-requires c =
    let q = c.requires in
    next_derivable q c.loop-function-test.true (c.loop-function.invariant q)

pub shape_of-shown-in_default : goal.shape_of-shown-in_default
shape_of-shown-in_default c =
    let q = c.requires in
    let g = c.loop-function.invariant q in
    search rules

pub shape_of-totals-in_default : goal.shape_of-totals-in_default
shape_of-totals-in_default c =
    let q = c.requires in
    let g = c.loop-function.invariant q in
    search rules

pub returns-in_default : goal.returns-in_default
returns-in_default c q = going_fails q c.loop-function-test.true (c.loop-function.invariant q) c.in_default.ensures

pub loop-function-preserved : goal.loop-function-preserved
loop-function-preserved c q =
    going_turn q c.loop-function-test.true (c.loop-function.invariant q) c.in-Some.ensures c.put_entry.ensures

pub shape_of-shown : goal.shape_of-shown
shape_of-shown c =
    let q = c.requires in
    let g = c.loop-function.invariant q in
    search rules

pub shape_of-totals : goal.shape_of-totals
shape_of-totals c =
    let q = c.requires in
    let g = c.loop-function.invariant q in
    search rules

pub returns : goal.returns
returns c q =
    let last : c.loop-function.function ≡ c.args.progress.functions = omega arith in
    rw last at (going_done q (c.loop-function.invariant q) c.loop-function-test.false)

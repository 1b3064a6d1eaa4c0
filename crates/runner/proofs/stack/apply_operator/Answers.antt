use native.Mathlib.Omega.{arith}
use mathlib.Core.Bool.{not}
use mathlib.Core.Path.{ap}
use Rattle.runner.proofs.OnTop.{base_place, not_taken, taken_appliable, too_few, value_placed}
use Rattle.runner.proofs.stack.apply_operator.Goals as goal

pub returns-then-top-count : goal.returns-then-top-count
returns-then-top-count c =
    λ e. too_few c.args.operator c.args.high c.args.low e c.if-top-count.true

pub returns-then-not-has_sort : goal.returns-then-not-has_sort
returns-then-not-has_sort c =
    λ e. not_taken c.args.operator
    c.args.high c.args.low e
    c.if-top-count.false c.has_sort.ensures (ap not c.if-not-has_sort.true)

pub value_of-value-requires : goal.value_of-value-requires
value_of-value-requires c =
    taken_appliable c.args.operator
    c.args.high
    c.args.low
    c.requires
    c.if-top-count.false c.has_sort.ensures
    (ap not c.if-not-has_sort.false)

pub bounds-stack-base : goal.bounds-stack-base
bounds-stack-base c =
    omega (
      arith,
      (base_place c.args.operator c.args.high c.args.low c.requires c.if-top-count.false c.has_sort.ensures (ap not c.if-not-has_sort.false)).0,
      c.requires.held.values_long,
    )

pub bounds-stack-base-2 : goal.bounds-stack-base-2
bounds-stack-base-2 c =
    omega (
      arith,
      (base_place c.args.operator c.args.high c.args.low c.requires c.if-top-count.false c.has_sort.ensures (ap not c.if-not-has_sort.false)).1,
      c.requires.held.sorts_long,
    )

pub returns : goal.returns
returns c =
    λ e. value_placed c.args.operator
    c.args.high
    c.args.low e
    c.if-top-count.false
    c.has_sort.ensures (ap not c.if-not-has_sort.false) c.value_of-value.ensures

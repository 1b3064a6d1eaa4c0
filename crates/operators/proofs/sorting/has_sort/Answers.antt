use Rattle.operators.proofs.SortTests.{operator_ruled, sort_none, sort_told}
use Rattle.operators.proofs.sorting.has_sort.Goals as goal

pub rule_gives-requires : goal.rule_gives-requires
rule_gives-requires c =
    operator_ruled c.args.operator c.args.sorts.now c.if-operator-takes.true
    c.takes.ensures c.rule_of.ensures

pub returns-then-operator-takes : goal.returns-then-operator-takes
returns-then-operator-takes c =
    sort_told c.args.operator c.args.sorts.now
    c.if-operator-takes.true c.takes.ensures c.rule_of.ensures
    c.args.high c.args.low c.rule_gives.ensures

pub returns : goal.returns
returns c =
    sort_none c.args.operator c.args.high c.args.low
    c.args.sorts.now c.if-operator-takes.false c.takes.ensures

use Rattle.term_sorts.proofs.OperatorSorts.{operator_fails, operator-gives, rule_asked}
use Rattle.term_sorts.proofs.rules.operator_sort.Goals as goal

pub rule_sort-requires : goal.rule_sort-requires
rule_sort-requires c = search rule_asked

pub returns-then-operator-takes : goal.returns-then-operator-takes
returns-then-operator-takes c = search operator-gives

pub returns : goal.returns
returns c = search operator_fails

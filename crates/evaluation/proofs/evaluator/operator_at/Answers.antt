use Rattle.evaluation.proofs.Operators.{gave}
use Rattle.evaluation.proofs.evaluator.operator_at.Goals as goal

pub returns : goal.returns
returns c = λ e. gave c.high_in-high.ensures c.low_in-low.ensures c.result_sort-sort.ensures c.apply.ensures e

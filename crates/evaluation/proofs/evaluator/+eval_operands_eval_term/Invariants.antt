use Prim.Native.Nat.{◌+◌, ◌-◌, ◌*◌}
use Rattle.evaluation.specs.code.Evaluator.{OperandsEvaluable}
use Rattle.evaluation.proofs.Operands.{Done}
use Rattle.evaluation.proofs.evaluator.+eval_operands_eval_term.Given as goal

abbrev pub decreases-eval_operands : goal.decreases-eval_operands
decreases-eval_operands l = 2 * l.left + 1

abbrev pub decreases-eval_term : goal.decreases-eval_term
decreases-eval_term l = 2 * l.left

abbrev pub invariant-eval_operands-loop-j : goal.invariant-eval_operands-loop-j
invariant-eval_operands-loop-j l = (e : OperandsEvaluable l.nodes l.bodies l.initial.stack l.base l.top l.start l.stop l.left) → Done e l.stack l.sorts.one l.sorts.two l.j l.k

abbrev pub decreases-eval_operands-loop-j : goal.decreases-eval_operands-loop-j
decreases-eval_operands-loop-j l = l.stop - l.j

use Rattle.runner.proofs.Runs.{Reached}
use Rattle.runner.proofs.running.run_list.Given as goal

abbrev pub invariant-loop-k : goal.invariant-loop-k
invariant-loop-k l = Reached l.sorts l.arguments l.steps l.stack.numbers l.stack.sorts l.stack.top l.k

use mathlib.Core.Path.{ap}
use Rattle.terms.specs.declared.Value.{Value}
use Rattle.test_values.proofs.CaseHolds.{evaluable}
use Rattle.test_values.proofs.value.Goals as goal

pub eval_term-v-requires : goal.eval_term-v-requires
eval_term-v-requires c =
    evaluable c.nodes-nodes.ensures c.bodies-bodies.ensures c.stack-stack.ensures

pub returns : goal.returns
returns c =
    let given = c.eval_term-v.ensures (evaluable c.nodes-nodes.ensures c.bodies-bodies.ensures c.stack-stack.ensures) in
    ap (λ (v : Value). v.number) given.is

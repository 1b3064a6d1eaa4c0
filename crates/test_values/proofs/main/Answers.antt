use Rattle.test_values.proofs.CaseHolds.{assumption_ended, run_assumed, run_ended, run_false, shifted_held}
use borrow.Author.Tests.{eq-eqb}
use mathlib.Core.Path.{ap, ◌∙◌}
use Rattle.evaluation.specs.declared.Run.{Run}
use Rattle.evaluation.specs.Running.{left_of}
use Rattle.test_values.specs.Case.{answer_of}
use Rattle.test_values.proofs.main.Goals as goal

pub expect-requires : goal.expect-requires
expect-requires c = eq-eqb c.cost.result 14 (c.cost.ensures ∙ shifted_held)

pub expect-requires-2 : goal.expect-requires-2
expect-requires-2 c = eq-eqb c.value.result 1 c.value.ensures

pub expect-requires-3 : goal.expect-requires-3
expect-requires-3 c = eq-eqb c.answer.result 14 (c.answer.ensures ∙ ap (λ (r : Run). answer_of r.ran) (c.run.ensures ∙ run_false))

pub expect-requires-4 : goal.expect-requires-4
expect-requires-4 c = eq-eqb c.left.result 44 (c.left.ensures ∙ ap (λ (r : Run). left_of r.ran) (c.run-2.ensures ∙ run_false))

pub expect-requires-5 : goal.expect-requires-5
expect-requires-5 c = eq-eqb c.answer-2.result 15 (c.answer-2.ensures ∙ ap (λ (r : Run). answer_of r.ran) (c.run-3.ensures ∙ run_ended))

pub expect-requires-6 : goal.expect-requires-6
expect-requires-6 c = eq-eqb c.left-2.result 12 (c.left-2.ensures ∙ ap (λ (r : Run). left_of r.ran) (c.run-4.ensures ∙ run_ended))

pub expect-requires-7 : goal.expect-requires-7
expect-requires-7 c = eq-eqb c.answer-3.result 0 (c.answer-3.ensures ∙ ap (λ (r : Run). answer_of r.ran) (c.run-5.ensures ∙ run_assumed))

pub expect-requires-8 : goal.expect-requires-8
expect-requires-8 c = eq-eqb c.left-3.result 46 (c.left-3.ensures ∙ ap (λ (r : Run). left_of r.ran) (c.run-6.ensures ∙ run_assumed))

pub expect-requires-9 : goal.expect-requires-9
expect-requires-9 c = eq-eqb c.held.result 1 (c.held.ensures ∙ ap (λ (r : Run). r.held) (c.run-7.ensures ∙ run_assumed))

pub expect-requires-10 : goal.expect-requires-10
expect-requires-10 c = eq-eqb c.answer-4.result 15 (c.answer-4.ensures ∙ ap (λ (r : Run). answer_of r.ran) (c.run-8.ensures ∙ assumption_ended))

pub expect-requires-11 : goal.expect-requires-11
expect-requires-11 c = eq-eqb c.left-4.result 12 (c.left-4.ensures ∙ ap (λ (r : Run). left_of r.ran) (c.run-9.ensures ∙ assumption_ended))

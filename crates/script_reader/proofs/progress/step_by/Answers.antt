use Rattle.script_reader.specs.declared.Step.{Step}
use mathlib.Core.Path.{ap, sym, ◌∙◌}
use Rattle.script_reader.proofs.progress.step_by.Goals as goal

pub returns-then-verdict-ne0 : goal.returns-then-verdict-ne0
returns-then-verdict-ne0 c = record {
  number_is = ap (λ (s : Step). s.number) c.answer.ensures;
  place_is = ap (λ (s : Step). s.place) c.answer.ensures;
  second_is = ap (λ (s : Step). s.second) c.answer.ensures;
  progress_is = λ z. absurd (c.if-verdict-ne0.true z);
}

pub said-requires : goal.said-requires
said-requires c = c.requires c.if-verdict-ne0.false

pub returns : goal.returns
returns c = record {
  number_is = ap (λ (s : Step). s.number) c.answer-2.ensures ∙ sym c.if-verdict-ne0.false;
  place_is = ap (λ (s : Step). s.place) c.answer-2.ensures;
  second_is = ap (λ (s : Step). s.second) c.answer-2.ensures;
  progress_is = λ z. ap (λ (s : Step). s.progress) c.answer-2.ensures ∙ c.said.ensures;
}

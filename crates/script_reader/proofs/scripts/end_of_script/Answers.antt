use mathlib.Core.Bool.{Bool}
use mathlib.Core.Path.{◌∙◌, ap, sym}
use Rattle.script_reader.specs.code.Scripts.{last_step}
use Rattle.script_reader.proofs.scripts.end_of_script.Goals as goal

pub returns-then-progress : goal.returns-then-progress
returns-then-progress c = c.answer.ensures ∙ ap (λ (t : Bool). last_step c.args.nowhere t c.args.progress) (sym c.if-progress.true)

pub returns : goal.returns
returns c = c.answer-2.ensures ∙ ap (λ (t : Bool). last_step c.args.nowhere t c.args.progress) (sym c.if-progress.false)

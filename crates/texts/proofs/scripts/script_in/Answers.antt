use mathlib.Core.Path.{◌∙◌}
use native.Mathlib.Omega.{arith}
use lib.ListN.{length-take}
use Rattle.texts.proofs.TextLexemes.{found_in, placed, room_of, worded_in}
use Rattle.texts.proofs.ScriptText.{commands_told, script_at, words_refused}
use Rattle.texts.proofs.scripts.script_in.Goals as goal

pub read_lexemes-reading-requires : goal.read_lexemes-reading-requires
read_lexemes-reading-requires c = room_of c.script_limits.ensures (omega arith) c.requires.row_each

pub returns-then-number_of-ne0 : goal.returns-then-number_of-ne0
returns-then-number_of-ne0 c = words_refused _ (found_in c.script_limits.ensures c.read_lexemes-reading.ensures) (λ z. c.if-number_of-ne0.true (c.number_of.ensures ∙ z))
    (c.refused_word.ensures.0 ∙ c.number_of-then-number_of-ne0.ensures, c.refused_word.ensures.1 ∙ c.place_of.ensures, c.refused_word.ensures.2)

pub overflow_mul-count : goal.overflow_mul-count
overflow_mul-count c =
    let w = worded_in c.script_limits.ensures c.read_lexemes-reading.ensures c.number_of.ensures c.if-number_of-ne0.false c.passed_of-count.ensures in
    omega (arith, w.few)

pub slice_bounds-read_script-end : goal.slice_bounds-read_script-end
slice_bounds-read_script-end c =
    let w = worded_in c.script_limits.ensures c.read_lexemes-reading.ensures c.number_of.ensures c.if-number_of-ne0.false c.passed_of-count.ensures in
    omega (arith, c.read_lexemes-reading.auto.lexemes, c.requires.row_each.room _ w.few w.short)

pub slice_bounds-read_script-end-2 : goal.slice_bounds-read_script-end-2
slice_bounds-read_script-end-2 c =
    let w = worded_in c.script_limits.ensures c.read_lexemes-reading.ensures c.number_of.ensures c.if-number_of-ne0.false c.passed_of-count.ensures in
    simp length-take (omega (arith, c.read_lexemes-reading.auto.lexemes, c.requires.row_each.room _ w.few w.short))

pub read_script-step-requires : goal.read_script-step-requires
read_script-step-requires c =
    let w = worded_in c.script_limits.ensures c.read_lexemes-reading.ensures c.number_of.ensures c.if-number_of-ne0.false c.passed_of-count.ensures in
    script_at w c.requires.lent c.requires.row_each_2

pub step_in-requires : goal.step_in-requires
step_in-requires c =
    let w = worded_in c.script_limits.ensures c.read_lexemes-reading.ensures c.number_of.ensures c.if-number_of-ne0.false c.passed_of-count.ensures in
    placed w

pub shape_of-lexemes : goal.shape_of-lexemes
shape_of-lexemes c = c.read_lexemes-reading.auto.lexemes

pub returns : goal.returns
returns c =
    let w = worded_in c.script_limits.ensures c.read_lexemes-reading.ensures c.number_of.ensures c.if-number_of-ne0.false c.passed_of-count.ensures in
    commands_told w c.requires.lent c.requires.row_each_2 (c.read_script-step.ensures (script_at w c.requires.lent c.requires.row_each_2)) c.step_in.ensures

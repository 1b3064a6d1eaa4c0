use mathlib.Core.Path.{◌∙◌, refl}
use native.Mathlib.Omega.{arith}
use lib.ListN.{length-take}
use Rattle.texts.proofs.TextLexemes.{found_in, placed, room_of, worded_in}
use Rattle.texts.proofs.ResponseText.{commands_told, responding, words_refused}
use Rattle.texts.proofs.responses.response_in.Goals as goal

pub read_lexemes-reading-requires : goal.read_lexemes-reading-requires
read_lexemes-reading-requires c = room_of refl (omega (arith, c.requires.ready.few_words)) c.requires.row_each

pub returns-then-number_of-ne0 : goal.returns-then-number_of-ne0
returns-then-number_of-ne0 c = λ q. words_refused q _ (found_in refl c.read_lexemes-reading.ensures) (λ z. c.if-number_of-ne0.true (c.number_of.ensures ∙ z))
    c.number_of-then-number_of-ne0.ensures c.place_of.ensures

pub overflow_mul-count : goal.overflow_mul-count
overflow_mul-count c =
    let w = worded_in refl c.read_lexemes-reading.ensures c.number_of.ensures c.if-number_of-ne0.false c.passed_of-count.ensures in
    omega (arith, w.few, c.requires.ready.few_words)

pub slice_bounds-read_response-end : goal.slice_bounds-read_response-end
slice_bounds-read_response-end c =
    let w = worded_in refl c.read_lexemes-reading.ensures c.number_of.ensures c.if-number_of-ne0.false c.passed_of-count.ensures in
    omega (arith, c.read_lexemes-reading.auto.lexemes, c.requires.row_each.room _ w.few w.short)

pub slice_bounds-read_response-end-2 : goal.slice_bounds-read_response-end-2
slice_bounds-read_response-end-2 c =
    let w = worded_in refl c.read_lexemes-reading.ensures c.number_of.ensures c.if-number_of-ne0.false c.passed_of-count.ensures in
    simp length-take (omega (arith, c.read_lexemes-reading.auto.lexemes, c.requires.row_each.room _ w.few w.short))

pub read_response-verdict-requires : goal.read_response-verdict-requires
read_response-verdict-requires c =
    let w = worded_in refl c.read_lexemes-reading.ensures c.number_of.ensures c.if-number_of-ne0.false c.passed_of-count.ensures in
    responding w c.requires.ready c.requires.row_each_2

pub refusal_offset-requires : goal.refusal_offset-requires
refusal_offset-requires c =
    let w = worded_in refl c.read_lexemes-reading.ensures c.number_of.ensures c.if-number_of-ne0.false c.passed_of-count.ensures in
    placed w

pub returns : goal.returns
returns c =
    let w = worded_in refl c.read_lexemes-reading.ensures c.number_of.ensures c.if-number_of-ne0.false c.passed_of-count.ensures in
    λ q. commands_told w q c.requires.row_each_2 (c.read_response-verdict.ensures (responding w q c.requires.row_each_2)) c.refusal_offset.ensures

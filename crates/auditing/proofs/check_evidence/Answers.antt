use Rattle.auditing.proofs.FileAnswer.{block_told, long_told, rooms_right}
use native.Mathlib.Omega.{arith}
use mathlib.Core.Path.{sym}
use lib.Seq.{length-take-le}
use Rattle.auditing.proofs.check_evidence.Goals as goal

pub returns-in-Some : goal.returns-in-Some
returns-in-Some c = block_told _ c.in-Some.ensures c.refusal.ensures c.unlocated.ensures

pub returns-then-long-ne-ACCEPTED : goal.returns-then-long-ne-ACCEPTED
returns-then-long-ne-ACCEPTED c = long_told _ c.in_default.ensures c.script_length-script_size.ensures c.response_length-response_size.ensures c.length_answer-long.ensures c.if-long-ne-ACCEPTED.true c.unlocated-then-long-ne-ACCEPTED.ensures

pub slice_bounds-script-end : goal.slice_bounds-script-end
slice_bounds-script-end c = omega (arith, (c.length_answer-long.ensures.short c.if-long-ne-ACCEPTED.false).0)

pub slice_bounds-answer_copied-end : goal.slice_bounds-answer_copied-end
slice_bounds-answer_copied-end c = sym (length-take-le _ _ (omega (arith, (c.length_answer-long.ensures.short c.if-long-ne-ACCEPTED.false).0)))

pub slice_bounds-response-end : goal.slice_bounds-response-end
slice_bounds-response-end c = omega (arith, (c.length_answer-long.ensures.short c.if-long-ne-ACCEPTED.false).1)

pub slice_bounds-answer_copied-end-2 : goal.slice_bounds-answer_copied-end-2
slice_bounds-answer_copied-end-2 c = sym (length-take-le _ _ (omega (arith, (c.length_answer-long.ensures.short c.if-long-ne-ACCEPTED.false).1)))

pub answer_copied-requires : goal.answer_copied-requires
answer_copied-requires c = rooms_right _ c.in_default.ensures c.script_length-script_size.ensures c.response_length-response_size.ensures c.length_answer-long.ensures c.if-long-ne-ACCEPTED.false (length-take-le _ _ (omega (arith, (c.length_answer-long.ensures.short c.if-long-ne-ACCEPTED.false).0))) (length-take-le _ _ (omega (arith, (c.length_answer-long.ensures.short c.if-long-ne-ACCEPTED.false).1)))

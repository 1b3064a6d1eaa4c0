use native.Mathlib.Omega.{arith}
use Rattle.both_texts.proofs.LongTexts.{both_short, response_long, script_long}
use Rattle.both_texts.proofs.lengths.length_answer.Goals as goal

pub returns-then-script-gt-SCRIPT_BYTES : goal.returns-then-script-gt-SCRIPT_BYTES
returns-then-script-gt-SCRIPT_BYTES c = script_long c.refusal.ensures (omega arith)

pub returns-then-response-gt-RESPONSE_BYTES : goal.returns-then-response-gt-RESPONSE_BYTES
returns-then-response-gt-RESPONSE_BYTES c = response_long (omega arith) c.refusal-then-response-gt-RESPONSE_BYTES.ensures (omega arith)

pub returns : goal.returns
returns c = both_short (omega arith) (omega arith) c.refusal-2.ensures

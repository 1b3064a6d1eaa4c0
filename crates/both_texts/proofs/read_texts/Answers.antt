use Rattle.both_texts.proofs.Reading.{ready, response_read, script_declined, to_read}
use Rattle.both_texts.proofs.read_texts.Goals as goal

pub read_script_text-step-requires : goal.read_script_text-step-requires
read_script_text-step-requires c = to_read c.requires

pub returns-then-step-ne-ACCEPTED : goal.returns-then-step-ne-ACCEPTED
returns-then-step-ne-ACCEPTED c = script_declined c.read_script_text-step.ensures c.script_refusal.ensures c.if-step-ne-ACCEPTED.true

pub read_response_text-verdict-requires : goal.read_response_text-verdict-requires
read_response_text-verdict-requires c = ready c.read_script_text-step.ensures c.if-step-ne-ACCEPTED.false c.requires c.read_script_text-step.auto.nodes

pub returns : goal.returns
returns c = response_read c.read_script_text-step.ensures c.if-step-ne-ACCEPTED.false c.requires c.read_script_text-step.auto.nodes
    c.read_response_text-verdict.ensures c.refusal.ensures

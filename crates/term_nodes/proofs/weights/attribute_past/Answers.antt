use Rattle.term_nodes.proofs.RuleWeights.{not_past, past_here}
use Rattle.term_nodes.proofs.weights.attribute_past.Goals as goal

pub returns-then-code_at-value_at : goal.returns-then-code_at-value_at
returns-then-code_at-value_at c = search past_here

pub returns : goal.returns
returns c = search not_past

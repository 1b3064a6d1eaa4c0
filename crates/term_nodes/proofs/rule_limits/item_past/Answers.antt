use Rattle.term_nodes.proofs.Past.{none_found, past_found}
use Rattle.term_nodes.proofs.rule_limits.item_past.Goals as goal

pub returns-then-at-close : goal.returns-then-at-close
returns-then-at-close c = search past_found

pub returns : goal.returns
returns c = search none_found

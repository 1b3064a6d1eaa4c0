use Rattle.forest.specs.code.Rows.{number_at}
use Rattle.term_sorts.proofs.calls.signature_at.Goals as goal

pub returns : goal.returns
unfolding number_at
returns c = c.entry_at.ensures

use Rattle.both_texts.proofs.Locating.{unlocated_is}
use Rattle.both_texts.proofs.answers.unlocated.Goals as goal

pub returns : goal.returns
returns c = unlocated_is c.no_totals.ensures

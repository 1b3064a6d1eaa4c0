use Rattle.both_texts.proofs.Locating.{location_found}
use Rattle.both_texts.proofs.located.location_in.Goals as goal

pub returns : goal.returns
returns c = search location_found

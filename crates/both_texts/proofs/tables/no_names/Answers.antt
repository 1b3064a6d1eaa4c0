use Rattle.both_texts.proofs.Reading.{blank_names}
use Rattle.both_texts.proofs.tables.no_names.Goals as goal

pub returns : goal.returns
returns c = blank_names

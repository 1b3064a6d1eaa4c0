use Rattle.both_texts.proofs.Reading.{lent}
use Rattle.filing.proofs.Filings.{found_in}
use Rattle.filing.proofs.derive_in.Goals as goal

pub accept-told-requires : goal.accept-told-requires
accept-told-requires c = record { lent = search lent; shown_value = c.requires.derivable.blank }

pub returns : goal.returns
returns c = found_in c.response_limits-limits.ensures c.requires.derivable c.accept-told.ensures

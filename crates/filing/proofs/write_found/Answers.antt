use Rattle.filing.proofs.Filings.{area_sized, declined_filed, file_fits, is_filed, length_fits, short_filed}
use Rattle.filing.proofs.write_found.Goals as goal

pub returns-then-outcome-ne-ACCEPTED : goal.returns-then-outcome-ne-ACCEPTED
returns-then-outcome-ne-ACCEPTED c = search declined_filed

pub rules_in-requires : goal.rules_in-requires
rules_in-requires c = search area_sized

pub file_length-requires : goal.file_length-requires
file_length-requires c = search length_fits

pub returns-then-area-file_length : goal.returns-then-area-file_length
returns-then-area-file_length c = short_filed c.requires c.if-outcome-ne-ACCEPTED.false c.rules_in.ensures c.file_length.ensures c.if-area-file_length.true c.refusal.ensures c.unlocated.ensures c.unwritten-then-area-file_length.ensures

pub write_file-length-requires : goal.write_file-length-requires
write_file-length-requires c = record { shown_len = area_sized c.requires c.if-outcome-ne-ACCEPTED.false; shown_in_bounds = file_fits c.requires c.if-outcome-ne-ACCEPTED.false c.rules_in.ensures c.file_length.ensures c.if-area-file_length.false }

pub returns : goal.returns
returns c = search is_filed

use Rattle.names.proofs.EarlierRows.{by_name, new_within, no_row}
use Rattle.names.proofs.earlier.earlier_place.Goals as goal

pub name_in-requires-clause-row_lt_row_count : goal.name_in-requires-clause-row_lt_row_count
name_in-requires-clause-row_lt_row_count c = new_within _ _ _ _ _ c.in-Some.ensures c.requires

pub returns-in-Some : goal.returns-in-Some
returns-in-Some c = by_name _ _ _ _ _ c.in-Some.ensures c.name_in.ensures c.last_of_all.ensures

pub returns-in-None : goal.returns-in-None
returns-in-None c = no_row _ _ _ _ _ c.in-None.ensures

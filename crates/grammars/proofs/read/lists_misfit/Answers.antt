use Rattle.grammars.proofs.Lists.{command_of, groups_of, lists_tested, pairs_of, sort-of}
use Rattle.grammars.proofs.read.lists_misfit.Goals as goal

pub non_terminals_at-non_terminals-requires : goal.non_terminals_at-non_terminals-requires
non_terminals_at-non_terminals-requires c = search command_of

pub groups_at-groups-requires : goal.groups_at-groups-requires
groups_at-groups-requires c = search command_of

pub result_at-requires : goal.result_at-requires
result_at-requires c = search command_of

pub sort_of-sort-requires : goal.sort_of-sort-requires
sort_of-sort-requires c = search sort-of

pub start_misfit-start-requires : goal.start_misfit-start-requires
start_misfit-start-requires c = search pairs_of

pub listing_misfit-again-requires : goal.listing_misfit-again-requires
listing_misfit-again-requires c = search groups_of

pub returns : goal.returns
returns c =
    lists_tested c.non_terminals_at-non_terminals.ensures c.groups_at-groups.ensures c.result_at.ensures
    c.sort_of-sort.ensures _ c.start_misfit-start.ensures c.listing_misfit-again.ensures c.least.ensures

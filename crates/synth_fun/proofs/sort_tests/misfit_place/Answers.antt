use Rattle.synth_fun.proofs.SortsSought.{misfit_found, rules-from}
use Rattle.synth_fun.proofs.sort_tests.misfit_place.Goals as goal

pub rules_misfit-sides-requires : goal.rules_misfit-sides-requires
rules_misfit-sides-requires c = rules-from c.rules_place-first.ensures c.requires

pub returns : goal.returns
returns c =
    misfit_found c.rules_place-first.ensures _ c.lists_misfit-lists.ensures c.rules_misfit-sides.ensures c.least.ensures

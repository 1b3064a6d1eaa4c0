use Rattle.synth_fun.proofs.NamesPut.{grammar_here, head_here, names_found}
use Rattle.synth_fun.proofs.name_tests.names_place.Goals as goal

pub head_names-head-requires : goal.head_names-head-requires
head_names-head-requires c =
    head_here c.requires

pub grammar_names-grammar-requires : goal.grammar_names-grammar-requires
grammar_names-grammar-requires c =
    grammar_here c.requires c.head_names-head.ensures

pub returns : goal.returns
returns c =
    λ u. names_found u c.head_names-head.ensures c.grammar_names-grammar.ensures c.least.ensures

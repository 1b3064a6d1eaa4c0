use Rattle.synth_fun.proofs.GrammarAsked.{asks_parts, finds_parts, rows_part}
use Rattle.synth_fun.proofs.sort_tests.dead_place.Goals as goal

pub first_dead-dead-requires : goal.first_dead-dead-requires
first_dead-dead-requires c =
    asks_parts c.rules_of-rules.ensures
    (rows_part c.args.forms.now c.args.command.progress.forms c.args.parts.gathered.row)
    c.sorts_of-arguments.ensures c.requires.asks

pub returns : goal.returns
returns c =
    λ q. c.dead_misfit.ensures q.declared _
    (finds_parts c.rules_of-rules.ensures
    (rows_part c.args.forms.now c.args.command.progress.forms c.args.parts.gathered.row)
    c.sorts_of-arguments.ensures c.first_dead-dead.ensures q.asks)

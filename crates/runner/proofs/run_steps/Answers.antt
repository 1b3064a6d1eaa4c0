use mathlib.Core.Path.{sym, ◌∙◌}
use Rattle.steps.proofs.Ends.{ran_fitting}
use Rattle.runner.proofs.Runs.{argument_bad, counts_differ, none_is}
use Rattle.runner.proofs.run_steps.Goals as goal

pub returns-then-sorts-count : goal.returns-then-sorts-count
returns-then-sorts-count c = counts_differ c.args.sorts.now c.args.arguments.now c.args.steps.now c.if-sorts-count.true

pub returns-in-Some : goal.returns-in-Some
returns-in-Some c = argument_bad c.args.sorts.now c.args.arguments.now c.args.steps.now c.if-sorts-count.false c.in-Some.ensures

pub run_list-requires : goal.run_list-requires
run_list-requires c = none_is c.args.sorts.now c.args.arguments.now c.args.steps.now c.if-sorts-count.false c.in_default.ensures

pub returns : goal.returns
returns c =
    let fit = none_is c.args.sorts.now c.args.arguments.now c.args.steps.now c.if-sorts-count.false c.in_default.ensures in
    c.run_list.ensures ∙ sym (ran_fitting fit c.args.steps.now)

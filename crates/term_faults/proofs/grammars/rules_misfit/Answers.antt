use mathlib.Core.Path.{refl}
use Rattle.term_faults.proofs.RulesLoop.{passing_begins, passing_ends, passing_goes, root_here}
use Rattle.term_faults.proofs.grammars.rules_misfit.Goals as goal

pub loop-rule-init : goal.loop-rule-init
loop-rule-init c = search passing_begins

pub side_misfit-requires : goal.side_misfit-requires
side_misfit-requires c =
    root_here c.loop-rule.invariant c.loop-rule-test.true refl refl c.head_sort-sort.ensures

pub loop-rule-preserved : goal.loop-rule-preserved
loop-rule-preserved c =
    passing_goes
    c.loop-rule.invariant
    c.loop-rule-test.true
    refl
    refl
    c.head_sort-sort.ensures
    c.side_misfit.ensures
    c.least-place.ensures

pub returns : goal.returns
returns c = passing_ends c.loop-rule.invariant c.loop-rule-test.false

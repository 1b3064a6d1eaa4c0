use Rattle.commands.proofs.TermTested.{body_passed, name_refused, sort_refused, sort_sought}
use Rattle.commands.proofs.term_tests.judge_body.Goals as goal

pub returns-then-name-nowhere : goal.returns-then-name-nowhere
returns-then-name-nowhere c = search name_refused

pub body_sort-misfit-requires : goal.body_sort-misfit-requires
body_sort-misfit-requires c = search sort_sought

pub returns-then-fault-nowhere : goal.returns-then-fault-nowhere
returns-then-fault-nowhere c = search sort_refused

pub returns : goal.returns
returns c = search body_passed

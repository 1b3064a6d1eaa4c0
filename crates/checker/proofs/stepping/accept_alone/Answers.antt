use Rattle.checker.proofs.StepsAnswer.{bodies_answered, relent, size_declined}
use borrow.Author.Rules.{rules}
use Rattle.checker.proofs.stepping.accept_alone.Goals as goal

pub returns-then-size-ne-ACCEPTED : goal.returns-then-size-ne-ACCEPTED
returns-then-size-ne-ACCEPTED c = search size_declined

pub accept-requires : goal.accept-requires
accept-requires c = record { lent = search relent; shown_value = search rules }

pub returns : goal.returns
returns c = search bodies_answered

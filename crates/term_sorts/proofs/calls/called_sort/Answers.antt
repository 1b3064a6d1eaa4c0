use Rattle.term_sorts.proofs.Arguments.{called_fails, called_gives, fully_called}
use Rattle.term_sorts.proofs.calls.called_sort.Goals as goal

pub returns-then-count-signature_at : goal.returns-then-count-signature_at
returns-then-count-signature_at c = search called_fails

pub arguments_fit-fit-requires : goal.arguments_fit-fit-requires
arguments_fit-fit-requires c = search fully_called

pub returns : goal.returns
returns c = search called_gives

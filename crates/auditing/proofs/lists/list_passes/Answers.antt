use Rattle.one_function.proofs.NextFunction.{one_held}
use Rattle.auditing.proofs.ListFollowed.{absent_told, there_told}
use Rattle.auditing.proofs.lists.list_passes.Goals as goal

pub returns-then-function-progress : goal.returns-then-function-progress
returns-then-function-progress c q = absent_told _ q.right c.requires.1 c.list_length.ensures c.if-function-progress.true

pub follow_one-requires : goal.follow_one-requires
follow_one-requires c = let q = c.requires.0 in record { right = q.right; one = one_held q.held c.if-function-progress.false }

pub returns : goal.returns
returns c q = there_told c.if-function-progress.false c.follow_one.ensures

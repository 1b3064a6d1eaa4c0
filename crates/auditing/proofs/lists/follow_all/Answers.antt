use Rattle.auditing.proofs.FollowTurns.{going_done, going_fails, going_start, going_turn}
use Rattle.auditing.proofs.lists.follow_all.Goals as goal

pub loop-function-init : goal.loop-function-init
loop-function-init c q = going_start q

pub list_passes-requires : goal.list_passes-requires
list_passes-requires c = (c.requires, c.loop-function-test.true)

pub returns-then-not-list_passes : goal.returns-then-not-list_passes
returns-then-not-list_passes c q =
    going_fails q (c.loop-function.invariant q) c.loop-function-test.true (c.list_passes.ensures q) c.if-not-list_passes.true

pub loop-function-preserved : goal.loop-function-preserved
loop-function-preserved c q =
    going_turn q (c.loop-function.invariant q) c.loop-function-test.true (c.list_passes.ensures q) c.if-not-list_passes.false

pub returns : goal.returns
returns c q = going_done q (c.loop-function.invariant q) c.loop-function-test.false

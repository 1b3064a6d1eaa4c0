use Prim.Native.Nat.{◌+◌, ◌*◌, ◌-◌}
use lib.ListN.{length}
use Rattle.following.proofs.Fit.{Inv}
use Rattle.following.proofs.+fit_rule_use_rule.Given as goal

abbrev pub decreases-fit_rule : goal.decreases-fit_rule
decreases-fit_rule l = 2 * (length l.list.now - l.at) + 1

abbrev pub decreases-use_rule : goal.decreases-use_rule
decreases-use_rule l = 2 * (length l.list.now - l.at)

abbrev pub invariant-fit_rule-loop-place : goal.invariant-fit_rule-loop-place
invariant-fit_rule-loop-place l = Inv l.rules l.forms l.body l.list l.rule l.node l.at l.end l.place l.here l.next

use Rattle.forest.specs.Limits.{unused}
use Rattle.following.proofs.Rules.{get_d_any}
use lib.ListN.{get_or-eq_default}
use mathlib.Core.Path.{sym}
use native.Mathlib.Omega.{arith}
use Rattle.following.proofs.rule_in.Goals as goal

pub returns-then-at-list : goal.returns-then-at-list
returns-then-at-list c = sym (get_or-eq_default c.args.list.now unused {n = c.args.at} (omega arith))

pub overflow_cast-result-2 : goal.overflow_cast-result-2
overflow_cast-result-2 c = omega (arith, c.type_inv.list c.args.at)

pub returns : goal.returns
returns c = get_d_any c.args.list.now c.args.at 0 unused (omega arith)

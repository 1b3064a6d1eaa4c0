use native.Mathlib.Omega.{arith}
use Rattle.derivation.proofs.YieldWalk.{end_small, inv_start, turn_asks, turn_end, turn_fails, turn_on}
use Rattle.derivation.proofs.productive.form_yields.Goals as goal

pub overflow_add-end : goal.overflow_add-end
overflow_add-end c = omega (arith, end_small c.requires c.start_at-start.ensures c.size_at.ensures)

pub loop-place-init : goal.loop-place-init
loop-place-init c = search inv_start

pub node_yields-requires : goal.node_yields-requires
node_yields-requires c = search turn_asks

pub returns-then-not-node_yields : goal.returns-then-not-node_yields
returns-then-not-node_yields c = search turn_fails

pub loop-place-preserved : goal.loop-place-preserved
loop-place-preserved c = search turn_on

pub returns : goal.returns
returns c = search turn_end

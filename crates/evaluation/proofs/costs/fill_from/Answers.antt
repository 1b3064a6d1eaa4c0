use lib.ListN.{length-set}
use mathlib.Core.Path.{◌≡◌}
use native.Mathlib.Omega.{arith}
use Rattle.evaluation.proofs.Prices.{cost_priced, fill_more}
use Rattle.evaluation.proofs.costs.fill_from.Goals as goal

pub cost_at-cost-requires : goal.cost_at-cost-requires
cost_at-cost-requires c = let e = c.requires in
    let f = c.loop-k.invariant.2 e in
    rw c.entry_at.ensures (e.bodies_at _ c.loop-k-test.true _ f).costing

pub loop-k-preserved : goal.loop-k-preserved
loop-k-preserved c = (
  rw length-set c.loop-k.invariant.0,
  omega arith,
  λ e.
      let f = c.loop-k.invariant.2 e in
      let price = e.bodies_at _ c.loop-k-test.true _ f in
      let cost = cost_priced c.entry_at.ensures price c.cost_at-cost.ensures in
      fill_more f (omega (arith, e.room, c.loop-k.invariant.0)) cost,
)

pub returns : goal.returns
returns c = λ e. let q : c.loop-k.k ≡ c.args.count = omega arith in rw (← q) (c.loop-k.invariant.2 e)

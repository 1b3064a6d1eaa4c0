use Rattle.evaluation.proofs.TermCosts.{prices_more}
use native.Mathlib.Omega.{arith}
use Rattle.evaluation.proofs.running.put_costs.Goals as goal

pub loop-k-preserved : goal.loop-k-preserved
loop-k-preserved c = let e = c.requires in
    let r = c.loop-k.invariant in
    (omega arith, omega arith, prices_more r.2 r.0 (omega (arith, e.terms_costing.within, e.prices_len)) c.cost_at-cost.ensures)

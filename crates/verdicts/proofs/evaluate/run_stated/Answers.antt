use Rattle.verdicts.proofs.StatedRuns.{pricing, runnable, stated_ran}
use Rattle.verdicts.proofs.evaluate.run_stated.Goals as goal

pub body_costs-costs-requires : goal.body_costs-costs-requires
body_costs-costs-requires c = pricing c.requires c.bodies_of-bodies.ensures

pub run_points-requires : goal.run_points-requires
run_points-requires c =
    let q = c.requires in
    let bodies = c.bodies_of-bodies.ensures in
    runnable q bodies c.stated_of-terms.ensures (c.body_costs-costs.ensures (pricing q bodies))

pub returns : goal.returns
returns c =
    λ q.
    let bodies = c.bodies_of-bodies.ensures in
    let priced = c.body_costs-costs.ensures (pricing q bodies) in
    stated_ran q bodies c.stated_of-terms.ensures priced c.args.budget c.run_points.ensures

use Rattle.test_values.proofs.CaseHolds.{runnable}
use Rattle.test_values.proofs.run.Goals as goal

pub run_points-requires : goal.run_points-requires
run_points-requires c = let nodes = c.nodes-nodes.ensures in
    runnable nodes c.bodies-bodies.ensures c.args.assumptions c.requires c.prices-costs.ensures c.places-places.ensures

pub returns : goal.returns
returns c = let nodes = c.nodes-nodes.ensures in
    c.run_points.ensures (runnable nodes c.bodies-bodies.ensures c.args.assumptions c.requires c.prices-costs.ensures c.places-places.ensures)

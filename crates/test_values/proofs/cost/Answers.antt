use Rattle.test_values.proofs.CaseHolds.{costing}
use Rattle.test_values.proofs.cost.Goals as goal

pub cost_at-requires : goal.cost_at-requires
cost_at-requires c = let nodes = c.nodes-nodes.ensures in
    costing nodes c.bodies-bodies.ensures c.prices-costs.ensures

pub returns : goal.returns
returns c = let nodes = c.nodes-nodes.ensures in
    c.cost_at.ensures (costing nodes c.bodies-bodies.ensures c.prices-costs.ensures)

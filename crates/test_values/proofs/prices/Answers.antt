use Rattle.test_values.proofs.CaseHolds.{pricing}
use Rattle.test_values.proofs.prices.Goals as goal

pub body_costs-requires : goal.body_costs-requires
body_costs-requires c = pricing c.nodes-nodes.ensures c.bodies-bodies.ensures

pub returns : goal.returns
returns c = c.body_costs.ensures (pricing c.nodes-nodes.ensures c.bodies-bodies.ensures)

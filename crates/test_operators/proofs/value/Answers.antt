use Rattle.test_operators.proofs.Taken.{logic_alike, plain_alike}
use Rattle.std.proofs.Common.{rules}
use Rattle.test_operators.proofs.value.Goals as goal

pub alike-requires : goal.alike-requires
alike-requires c = logic_alike (search rules) c.in-Logic.ensures (search rules) (search rules)

pub alike-requires-in-Equality : goal.alike-requires-in-Equality
alike-requires-in-Equality c = search (rules, plain_alike)

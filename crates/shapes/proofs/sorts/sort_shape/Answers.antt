use Rattle.shapes.proofs.TestsByCode.{sort_test}
use Rattle.shapes.proofs.sorts.sort_shape.Goals as goal

pub returns : goal.returns
returns c = search sort_test

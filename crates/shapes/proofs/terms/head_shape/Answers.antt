use Rattle.shapes.proofs.TestsByCode.{head_test}
use Rattle.shapes.proofs.terms.head_shape.Goals as goal

pub returns : goal.returns
returns c = search head_test

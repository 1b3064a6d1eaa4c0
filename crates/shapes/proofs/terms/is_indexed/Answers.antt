use Rattle.shapes.proofs.TestsByCode.{indexed_test}
use Rattle.shapes.proofs.terms.is_indexed.Goals as goal

pub returns : goal.returns
returns c = search indexed_test

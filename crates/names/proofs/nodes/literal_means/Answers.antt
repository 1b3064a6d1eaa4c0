use native.Mathlib.Omega.{arith}
use Rattle.names.proofs.ByWords.{is-constant}
use Rattle.names.proofs.nodes.literal_means.Goals as goal

pub code_with-requires : goal.code_with-requires
code_with-requires c = omega arith

pub returns : goal.returns
returns c = λ view. rw c.known_as.ensures (search is-constant)

use Rattle.terms.specs.code.Nodes.{node_table}
use Rattle.forest.specs.Tables.{rows}
use Rattle.forest.specs.Forest.{count, nodes_of}
use Rattle.forest.specs.code.Cursors.{size}
use mathlib.Core.Path.{refl}
use Rattle.test_values.proofs.nodes.Goals as goal

pub returns : goal.returns
unfolding count node_table nodes_of rows size
returns c = refl

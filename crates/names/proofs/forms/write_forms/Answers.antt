use Rattle.names.proofs.NodeTurns.{all_written, begins, node_here, turn}
use Rattle.names.proofs.forms.write_forms.Goals as goal

pub loop-node-init : goal.loop-node-init
loop-node-init c = search begins

pub node_means-meaning-requires : goal.node_means-meaning-requires
node_means-meaning-requires c = search node_here

pub loop-node-preserved : goal.loop-node-preserved
loop-node-preserved c =
    turn
    c.loop-node.invariant
    c.loop-node-test.true
    c.first_at-first.ensures
    c.head_at-head.ensures
    c.node_means-meaning.ensures
    c.operands_at.ensures
    c.size_at.ensures
    c.put_form.ensures
    c.unknown_word.ensures
    c.least-unknown.ensures

pub returns : goal.returns
returns c = search all_written

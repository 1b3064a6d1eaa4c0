use Rattle.term_nodes.proofs.PastLimit.{seek_begins, seek_counts, seek_ends, seek_finds, seek_skips}
use Rattle.term_nodes.proofs.limits.node_past.Goals as goal
use Rattle.term_nodes.proofs.limits.node_past.Goals.{else-head-at, then-head-at+else-counted-most}

pub loop-node-init : goal.loop-node-init
loop-node-init c = search seek_begins

pub returns-then-counted-most : goal.returns-then-counted-most
returns-then-counted-most c = search seek_finds

pub loop-node-preserved : goal.loop-node-preserved
loop-node-preserved c = elim c.if-head-at.branch [ then-head-at+else-counted-most w ↦ search seek_counts | else-head-at w ↦ search seek_skips ]

pub returns : goal.returns
returns c = search seek_ends

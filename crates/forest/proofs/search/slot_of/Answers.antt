use Rattle.forest.proofs.Searching.{slot_ends, slot_goes}
use Rattle.forest.proofs.search.slot_of.Goals as goal

pub loop-byte-preserved : goal.loop-byte-preserved
loop-byte-preserved c = rw c.from.ensures (search slot_goes)

pub returns : goal.returns
returns c = search slot_ends

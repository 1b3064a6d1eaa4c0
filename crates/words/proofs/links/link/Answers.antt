use Rattle.words.proofs.Chains.{linkage_ends, linkage_goes, linkage_room, linkage_small}
use Rattle.words.proofs.links.link.Goals as goal

pub overflow_cast-table : goal.overflow_cast-table
overflow_cast-table c = record { fits = search linkage_small }

pub bounds-table-i : goal.bounds-table-i
bounds-table-i c = search linkage_room

pub loop-i-preserved : goal.loop-i-preserved
loop-i-preserved c = search linkage_goes

pub returns : goal.returns
returns c = search linkage_ends

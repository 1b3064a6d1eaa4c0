use Rattle.forest.proofs.Searching.{slot_empty, slot_finds, slot_other, slot_within}
use Rattle.forest.proofs.search.find_word.Goals as goal

pub bounds-slots-slot_of : goal.bounds-slots-slot_of
bounds-slots-slot_of c = slot_within c.requires _ c.slot_of.ensures

pub returns-then-place-count : goal.returns-then-place-count
returns-then-place-count c = search slot_empty

pub returns-then-same_bytes : goal.returns-then-same_bytes
returns-then-same_bytes c = search slot_finds

pub returns : goal.returns
returns c = search slot_other

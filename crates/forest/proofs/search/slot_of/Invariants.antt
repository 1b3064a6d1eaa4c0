use Rattle.forest.proofs.Searching.{Slotting}
use Rattle.forest.proofs.search.slot_of.Given as goal

abbrev pub invariant-loop-byte : goal.invariant-loop-byte
invariant-loop-byte l = Slotting l.word l.slot l.byte-index

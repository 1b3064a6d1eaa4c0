use Rattle.blocks.proofs.Putting.{Bytes}
use Rattle.blocks.proofs.writing.put_bytes.Given as goal

abbrev pub invariant-loop-byte : goal.invariant-loop-byte
invariant-loop-byte l = Bytes l.initial.place l.bytes l.initial.area l.place l.byte-index l.area

use Rattle.words.proofs.Lines.{Counting}
use Rattle.words.proofs.positions.end_position.Given as goal

abbrev pub invariant-loop-byte : goal.invariant-loop-byte
invariant-loop-byte l = Counting l.text l.byte-index l.lines l.bytes

use Rattle.blocks.proofs.Copying.{Copied}
use Rattle.blocks.proofs.reading.copy_part.Given as goal

abbrev pub invariant-loop-i : goal.invariant-loop-i
invariant-loop-i l = Copied l.file l.from l.out l.i

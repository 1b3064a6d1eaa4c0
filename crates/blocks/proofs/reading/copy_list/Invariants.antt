use Rattle.blocks.proofs.Copying.{Listed}
use Rattle.blocks.proofs.reading.copy_list.Given as goal

abbrev pub invariant-loop-i : goal.invariant-loop-i
invariant-loop-i l = Listed l.file l.from l.out l.i

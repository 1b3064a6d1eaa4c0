use Rattle.blocks.proofs.Search.{Inv}
use Rattle.blocks.proofs.first_wrong.Given as goal

abbrev pub invariant-loop-block : goal.invariant-loop-block
invariant-loop-block l = Inv l.file l.block

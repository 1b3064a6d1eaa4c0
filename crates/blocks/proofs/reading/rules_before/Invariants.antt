use Rattle.blocks.proofs.Lengths.{Adding}
use Rattle.blocks.proofs.reading.rules_before.Given as goal

abbrev pub invariant-loop-k : goal.invariant-loop-k
invariant-loop-k l = Adding l.file l.rules l.k

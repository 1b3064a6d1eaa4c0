use Rattle.words.proofs.Chains.{Linkage}
use Rattle.words.proofs.links.link.Given as goal

abbrev pub invariant-loop-i : goal.invariant-loop-i
invariant-loop-i l = Linkage l.initial.table l.count l.table l.i

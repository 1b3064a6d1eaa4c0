use Rattle.script.proofs.SortsPut.{Sorting}
use Rattle.script.proofs.signatures.put_sorts.Given as goal

abbrev pub invariant-loop-k : goal.invariant-loop-k
invariant-loop-k l = Sorting l.names l.initial.places l.places l.listed l.k

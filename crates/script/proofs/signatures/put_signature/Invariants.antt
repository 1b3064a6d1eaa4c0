use Rattle.script.proofs.Writing.{Writing}
use Rattle.script.proofs.signatures.put_signature.Given as goal

abbrev pub invariant-loop-k : goal.invariant-loop-k
invariant-loop-k l = Writing l.initial.places l.names l.places l.first l.arguments l.at l.k

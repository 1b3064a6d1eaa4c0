use Rattle.searching.proofs.Pricing.{Inv}
use Rattle.searching.proofs.matching.rank_of.Given as goal

abbrev pub invariant-loop-place : goal.invariant-loop-place
invariant-loop-place l = Inv l.rules l.forms l.body l.masks l.node l.rule l.end l.place l.here l.sum

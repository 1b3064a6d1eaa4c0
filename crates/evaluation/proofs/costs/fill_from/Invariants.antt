use Rattle.evaluation.specs.code.Tables.{no_place}
use Rattle.evaluation.specs.code.Costs.{FilledTo, Filling}
use lib.ListN.{length}
use mathlib.Core.Path.{◌≡◌}
use Prim.Native.Nat.{◌≤◌}
use Rattle.evaluation.proofs.costs.fill_from.Given as goal

abbrev pub invariant-loop-k : goal.invariant-loop-k
invariant-loop-k l = (length l.costs ≡ no_place) × (l.k ≤ l.count) × ((e : Filling l.nodes l.bodies l.initial.costs l.base l.count) → FilledTo l.initial.costs l.costs l.base l.k e.price)

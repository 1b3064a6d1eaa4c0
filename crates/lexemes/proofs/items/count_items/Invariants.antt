use Rattle.lexemes.proofs.Along.{AlongAny, Counted}
use Prim.Native.Nat.{◌-◌, ◌≤◌}
use Rattle.lexemes.proofs.items.count_items.Given as goal

abbrev pub invariant-loop-word : goal.invariant-loop-word
invariant-loop-word l = (l.found ≤ l.word) × AlongAny l.lexemes l.first l.close l.word (Counted l.found)

abbrev pub decreases-loop-word : goal.decreases-loop-word
decreases-loop-word l = l.close - l.word

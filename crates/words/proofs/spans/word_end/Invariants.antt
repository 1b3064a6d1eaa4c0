use Prim.Native.Nat.{◌+◌}
use lib.ListN.{drop, get_or}
use mathlib.Core.Path.{◌≡◌}
use mathlib.Core.Bool.{false}
use Rattle.words.specs.Spans.{bracket, run_end}
use Rattle.words.proofs.spans.word_end.Given as goal

abbrev pub invariant-loop-i : goal.invariant-loop-i
invariant-loop-i l = (run_end (drop l.i l.text) l.i ≡ run_end (drop (l.at + 1) l.text) (l.at + 1)) × (bracket (get_or l.text l.at 0) ≡ false)

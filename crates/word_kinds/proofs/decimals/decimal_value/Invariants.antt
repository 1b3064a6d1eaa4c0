use Prim.Native.Nat.{◌^◌, ◌<◌}
use mathlib.Core.Path.{◌≡◌}
use lib.ListN.{drop}
use Rattle.word_kinds.specs.Decimals.{decimal_value}
use Rattle.word_kinds.specs.Kinds.{spelled}
use Rattle.word_kinds.proofs.decimals.decimal_value.Given as goal

abbrev pub invariant-loop-i : goal.invariant-loop-i
invariant-loop-i l = (spelled 10 l.value (drop l.i l.word) ≡ decimal_value l.word) × (l.value < 2 ^ 64)

use Prim.Native.Nat.{◌^◌, ◌<◌}
use lib.ListN.{drop}
use mathlib.Core.Path.{◌≡◌}
use mathlib.Core.Bool.{true}
use Rattle.word_kinds.specs.code.Digits.{digits_below}
use Rattle.word_kinds.specs.Kinds.{spelled}
use Rattle.word_kinds.proofs.kinds.spell.Given as goal

abbrev pub invariant-loop-digit : goal.invariant-loop-digit
invariant-loop-digit l =
    (spelled l.base l.value (drop l.digit-index l.digits) ≡ spelled l.base 0 l.digits)
    × (digits_below l.base (drop l.digit-index l.digits) ≡ true)
    × (l.value < l.base ^ l.digit-index)

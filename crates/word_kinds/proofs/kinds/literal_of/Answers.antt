use mathlib.Core.Bool.{not}
use mathlib.Core.Path.{ap}
use Rattle.word_kinds.proofs.Forms.{literal_bad, literal_digits, literal_is, literal_long, literal_power}
use Rattle.word_kinds.proofs.kinds.literal_of.Goals as goal

pub returns-then-not-all_in-digits : goal.returns-then-not-all_in-digits
returns-then-not-all_in-digits c = search literal_bad

pub returns-then-digits-bits : goal.returns-then-digits-bits
returns-then-digits-bits c = search literal_long

pub spell-requires : goal.spell-requires
spell-requires c =
    let radix = c.requires in
    (literal_digits radix _ _ c.all_in.ensures (ap not c.if-not-all_in-digits.false), search literal_power)

pub returns : goal.returns
returns c = search literal_is

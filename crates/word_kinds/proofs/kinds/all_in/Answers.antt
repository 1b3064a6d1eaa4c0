use mathlib.Core.Path.{refl}
use Rattle.word_kinds.proofs.Digits.{all_ends, all_goes, all_stops}
use Rattle.word_kinds.proofs.kinds.all_in.Goals as goal

pub loop-byte-init : goal.loop-byte-init
loop-byte-init c = refl

pub returns-then-not-in_class : goal.returns-then-not-in_class
returns-then-not-in_class c = search all_stops

pub loop-byte-preserved : goal.loop-byte-preserved
loop-byte-preserved c = search all_goes

pub returns : goal.returns
returns c = search all_ends

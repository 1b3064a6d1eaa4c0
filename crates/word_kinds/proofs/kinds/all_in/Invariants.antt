use lib.ListN.{drop}
use mathlib.Core.Path.{◌≡◌}
use Rattle.word_kinds.specs.Kinds.{all_in}
use Rattle.word_kinds.proofs.kinds.all_in.Given as goal

abbrev pub invariant-loop-byte : goal.invariant-loop-byte
invariant-loop-byte l = all_in l.class (drop l.byte-index l.word) ≡ all_in l.class l.word

use lib.ListN.{drop}
use mathlib.Core.Path.{◌≡◌}
use Rattle.words.specs.code.Spans.{first_from, first_start}
use Rattle.words.proofs.spans.first_start.Given as goal

abbrev pub invariant-loop-i : goal.invariant-loop-i
invariant-loop-i l = first_from (drop l.i l.text) l.i l.comment ≡ first_start l.text l.at

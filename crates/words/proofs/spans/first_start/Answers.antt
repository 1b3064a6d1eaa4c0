use mathlib.Core.Path.{refl}
use Rattle.words.specs.code.Spans.{first_start}
use Rattle.words.proofs.Offsets.{first_goes, first_none, first_stops}
use Rattle.words.proofs.spans.first_start.Goals as goal

pub loop-i-init : goal.loop-i-init
unfolding first_start
loop-i-init c = refl

pub returns-then-begins : goal.returns-then-begins
returns-then-begins c = search first_stops

pub loop-i-preserved : goal.loop-i-preserved
loop-i-preserved c = search first_goes

pub returns : goal.returns
returns c = first_none _ _ _ _ c.loop-i.invariant c.loop-i-test.false c.loop-i.auto.i-end c.max.ensures

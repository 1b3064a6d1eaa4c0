use Rattle.accepting.proofs.BodiesAnswer.{every_derived, function_low, one_underived}
use mathlib.Core.Path.{refl}
use Rattle.accepting.proofs.derive_bodies.Goals as goal

pub returns-then-function-progress : goal.returns-then-function-progress
returns-then-function-progress c = every_derived c.no_totals-totals.ensures c.derive_all-function.ensures c.if-function-progress.true (rw c.refusal.ensures refl) refl

pub offset_of-requires : goal.offset_of-requires
offset_of-requires c = function_low c.no_totals-totals.ensures c.derive_all-function.ensures c.requires c.if-function-progress.false

pub returns : goal.returns
returns c = λ q. rw c.unweighed.ensures (one_underived c.no_totals-totals.ensures c.derive_all-function.ensures q c.if-function-progress.false c.blank_area.ensures c.offset_of.ensures)

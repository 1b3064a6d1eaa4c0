use mathlib.Core.Path.{refl}
use Rattle.outcome.proofs.unweighed.Goals as goal

pub returns : goal.returns
returns c = rw c.no_totals.ensures refl

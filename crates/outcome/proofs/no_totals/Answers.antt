use mathlib.Core.Path.{refl}
use Rattle.outcome.specs.Derived.{no_totals}
use Rattle.outcome.proofs.no_totals.Goals as goal

pub returns : goal.returns
unfolding no_totals
returns c = refl

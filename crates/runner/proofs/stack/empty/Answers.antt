use mathlib.Core.Path.{refl}
use Rattle.runner.specs.code.Stack.{no_values}
use Rattle.runner.proofs.stack.empty.Goals as goal

pub returns : goal.returns
unfolding no_values
returns c = record { no_numbers = refl; no_sorts = refl; none = refl }

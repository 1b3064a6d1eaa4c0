use Prim.Native.Nat.{ℕ, ◌/◌, ◌^◌}
use mathlib.Core.Path.{ap}
use lib.Dec.{eqb}
use lib.Bits.{and_mask}
use Rattle.derivation.specs.code.Masks.{has}
use Rattle.derivation.proofs.masks.has.Goals as goal

pub returns : goal.returns
unfolding has
returns c = ap (λ (x : ℕ). eqb x 1) (and_mask (c.args.mask / 2 ^ c.args.nonterminal) 1)

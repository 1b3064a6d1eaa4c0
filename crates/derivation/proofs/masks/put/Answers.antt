use native.Mathlib.Nat.{one-mul, mod-eq_of_lt}
use native.Mathlib.Omega.{arith}
use lib.Pow.{pow-lt}
use Rattle.derivation.proofs.Mask.{puts}
use Rattle.derivation.proofs.masks.put.Goals as goal

pub returns : goal.returns
returns c = rw (one-mul, mod-eq_of_lt (pow-lt {i = c.args.nonterminal} {j = 64} (omega arith))) (puts c.args.mask c.args.nonterminal)

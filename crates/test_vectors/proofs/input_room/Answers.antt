use mathlib.Core.Path.{sym}
use Prim.Native.Nat.{ℕ}
use lib.ListN.{length-replicate}
use Rattle.test_vectors.proofs.input_room.Goals as goal

pub returns : goal.returns
returns c = sym (length-replicate {A = ℕ} 5000000 0)

use Rattle.std.proofs.Common.{refl, lt-ltb}
use Rattle.operators.proofs.Powers.{cut_again}
use Rattle.operators.proofs.vectors.bvshl.Goals as goal

pub returns : goal.returns
returns c = simp (lt-ltb _ _ c.if-width-right.false) (cut_again _ c.requires refl c.cut.ensures)

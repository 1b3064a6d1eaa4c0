use Rattle.derivation.specs.code.Matching.{leaf_fits}
use Rattle.derivation.proofs.matching.leaf_fits.Goals as goal

pub returns : goal.returns
unfolding leaf_fits
returns c = cc

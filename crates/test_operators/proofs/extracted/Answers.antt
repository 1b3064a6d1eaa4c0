use Rattle.std.proofs.Common.{mod-lt}
use Rattle.test_operators.proofs.Taken.{at_most, cut_taken}
use Rattle.test_operators.proofs.extracted.Goals as goal

pub apply-requires : goal.apply-requires
apply-requires c = cut_taken c.requires.0 c.requires.1 c.requires.2 (at_most _ _) (mod-lt c.args.source c.requires.2.width.least)

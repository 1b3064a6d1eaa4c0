use Rattle.std.proofs.Common.{arith}
use Rattle.std.proofs.lemmas.Grind.{common_steps}
use Rattle.std.proofs.lemmas.List.Edits.{sets-eq}
use Rattle.searching.proofs.copy.Goals as goal

pub returns : goal.returns
returns g c = grind (arith, common_steps, sets-eq)

use Rattle.std.proofs.Common.{refl}
use Rattle.forest.specs.code.Search.{slot_from}
use Rattle.forest.proofs.Searching.{slotted}
use Rattle.operators.specs.Operators.{operators}
use Rattle.operators.specs.code.Operators.{spellings}
use Rattle.operators.proofs.operators.operator_slots.Goals as goal

pub returns : goal.returns
unfolding operators slot_from
returns c = slotted (spellings operators) _ refl tt

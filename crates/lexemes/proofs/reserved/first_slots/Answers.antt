use mathlib.Core.Path.{refl}
use Rattle.forest.specs.code.Search.{slot_from}
use Rattle.forest.proofs.Searching.{slotted}
use Rattle.lexemes.specs.code.Reserved.{first_spellings}
use Rattle.lexemes.proofs.reserved.first_slots.Goals as goal

pub returns : goal.returns
unfolding first_spellings slot_from
returns c = slotted first_spellings _ refl tt

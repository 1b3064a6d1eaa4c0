use mathlib.Core.Path.{refl}
use Rattle.lexemes.specs.code.Reserved.{first_spellings}
use Rattle.lexemes.proofs.reserved.first_starts.Goals as goal

pub returns : goal.returns
unfolding first_spellings
returns c = refl

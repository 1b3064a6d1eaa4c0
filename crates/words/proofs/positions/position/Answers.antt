use Rattle.words.proofs.Lines.{place_inside, place_past}
use Rattle.words.proofs.positions.position.Goals as goal

pub returns-then-place-text : goal.returns-then-place-text
returns-then-place-text c = search place_inside

pub returns : goal.returns
returns c = search place_past

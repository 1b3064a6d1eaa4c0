use mathlib.Core.Path.{◌∙◌}
use native.Mathlib.Omega.{arith}
use Rattle.texts.proofs.Offsets.{offset_there, offset_past}
use Rattle.texts.proofs.lexed.offset_of.Goals as goal

pub returns-then-word-count : goal.returns-then-word-count
returns-then-word-count c = c.start_at.ensures ∙ offset_there c.requires (omega arith)

pub returns-else-word-count : goal.returns-else-word-count
returns-else-word-count c = offset_past c.requires (omega arith)

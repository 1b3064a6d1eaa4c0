use mathlib.Core.Path.{◌∙◌}
use Rattle.forest.proofs.Searching.{same_pointwise}
use Rattle.forest.proofs.search.same_bytes.Goals as goal

pub returns : goal.returns
returns c = c.eq.ensures ∙ same_pointwise _ _

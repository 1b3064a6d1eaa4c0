-- The names of pairs.
use mathlib.Core.Path.{◌≡◌, refl}
use lib.ListN.{length}
use Rattle.forest.specs.Forest.{count, none, tree}
use Rattle.lexemes.specs.Lists.{Items}
use Rattle.names.specs.New.{named_by}

-- There is a name for each pair.
pub named_long : (pairs : Items) → length (named_by pairs) ≡ count pairs
unfolding count named_by
named_long none = refl
named_long (tree l ops more) = rw (named_long more)

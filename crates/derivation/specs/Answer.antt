-- What the check of one body shows.
use Rattle.std.specs.Prelude.{ℕ, ◌-◌, List, ◌++◌, length, replicate}
use Rattle.forest.specs.Forest.{Forest, none, tree}
use Rattle.derivation.specs.Derivation.{Item, non_terminal}
use Rattle.forest.specs.Limits.{list_size, unused}

-- The form that is the start alone: "The first is the start".
abbrev pub start : Forest Item
start = tree (non_terminal 0) none none

-- A list: the rule numbers ds at its front, and every other entry unused.
abbrev pub list_of : (ds : List ℕ) → List ℕ
list_of ds = ds ++ replicate (list_size - length ds) unused

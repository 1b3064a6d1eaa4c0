-- Forests by their nodes: how many there are, and what is left of a forest at a cursor.
use Rattle.std.specs.Prelude.{ℕ, zero, suc, ◌+◌}
use Rattle.forest.specs.Forest.{Forest, join, none, tree}

-- How many nodes.
unfoldable pub size : {L : Type 0} → Forest L → ℕ
size none = 0
size (tree l ops rest) = suc (size ops + size rest)

-- The first k trees.
unfoldable pub first : {L : Type 0} → ℕ → Forest L → Forest L
first zero F = none
first (suc k) none = none
first (suc k) (tree l ops rest) = tree l ops (first k rest)

-- What is left of a forest past its first i nodes: the place that a cursor i stands at.
unfoldable pub from : {L : Type 0} → Forest L → ℕ → Forest L
from F zero = F
from none (suc i) = none
from (tree l ops rest) (suc i) = from (join ops rest) i

-- The table that has the mask and the ranks of each node.
use Rattle.forest.specs.Limits.{most_non_terminals}
use Rattle.forest.specs.code.Rows.{number_at}
use Rattle.std.specs.Prelude.{List, ℕ, ◌+◌}

-- How many numbers a node has in the table of masks: a rank for each non-terminal, and its mask.
abbrev pub mark_width : ℕ
mark_width = most_non_terminals + 1

-- The mask of node j.
abbrev pub mask_at : List ℕ → ℕ → ℕ
mask_at masks j = number_at mark_width masks j most_non_terminals

-- The rank of a non-terminal at node j.
abbrev pub rank_at : List ℕ → ℕ → ℕ → ℕ
rank_at masks j A = number_at mark_width masks j A

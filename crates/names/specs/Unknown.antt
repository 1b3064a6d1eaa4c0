-- 7, "name unknown": the least word of terms at which a name stands that is not known; nowhere, a number past every word, where there is none.
use Rattle.std.specs.Prelude.{ℕ, min, cond, List, [], ◌∷◌}
use Rattle.forest.specs.Forest.{Node}
use Rattle.term_nodes.specs.Terms.{Raw, constant, cut, decimal, number, pattern, word}
use Rattle.written_sorts.specs.Written.{sort_place}
use Rattle.written_sorts.specs.declared.Fault.TheVariants.{Unknown}
use Rattle.names.specs.Scopes.{View, is_known}

-- The word of a node that names something unknown.
abbrev pub unknown_at : (nowhere : ℕ) → View → Raw → ℕ
unknown_at nowhere view (word at head n) = cond (is_known view n) nowhere head
unknown_at nowhere view (number at v) = nowhere
unknown_at nowhere view (constant at width v) = nowhere
unknown_at nowhere view (decimal at head name width) = nowhere
unknown_at nowhere view (cut at head i j) = nowhere
unknown_at nowhere view (pattern at c s held) = sort_place Unknown nowhere s held

-- The least of those of the nodes.
unfoldable pub unknown_in : (nowhere : ℕ) → View → List (Node Raw) → ℕ
unknown_in nowhere view [] = nowhere
unknown_in nowhere view (n ∷ more) = min (unknown_at nowhere view n.label) (unknown_in nowhere view more)

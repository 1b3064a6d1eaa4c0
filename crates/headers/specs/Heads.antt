-- The head of a command: its new name, its arguments and its sort. The least word at fault; nowhere, a number past every word, where there is none.
use Rattle.std.specs.Prelude.{ℕ, min, List, ◌∷◌}
use Rattle.lexemes.specs.Lists.{Items, inside, item, name_of}
use Rattle.names.specs.New.{new_name, new_pairs}
use Rattle.term_nodes.specs.Rules.{item_past}
use Rattle.written_sorts.specs.Written.{header_place}
use Rattle.written_sorts.specs.declared.Fault.TheVariants.{TooWide, Unknown}
use Rattle.forest.specs.Limits.{Counts}

-- 4, "past a limit", in a function's arguments and sort.
abbrev pub header_past : Counts → (nowhere : ℕ) → Items → ℕ
header_past counts nowhere c = min (item_past nowhere counts.arguments (inside 2 c)) (header_place TooWide nowhere c)

-- 7, "name unknown, taken or reserved", in a command's new name, its arguments and its sort: "A command's name is in scope from there to the end, its arguments
-- .. only within it".
abbrev pub header_names : (nowhere : ℕ) → (scope : List (List ℕ)) → Items → ℕ
header_names nowhere scope c =
    min (new_name nowhere scope (item 1 c)) (min (new_pairs nowhere (name_of (item 1 c) ∷ scope) (inside 2 c)) (header_place Unknown nowhere c))

-- 7, "name .. taken or reserved": new names, each in scope from there on; nowhere, a number past every word, where none is at fault.
use Rattle.std.specs.Prelude.{ℕ, min, cond, List, [], ◌∷◌}
use Rattle.forest.specs.Forest.{none, tree}
use Rattle.words.specs.Trees.{Lexeme, word_of}
use Rattle.lexemes.specs.Lists.{Items, inside, item, name_of}
use Rattle.names.specs.Scopes.{Named, is_taken}
use Rattle.written_sorts.specs.Written.{sort_of}

-- A new name that is reserved or taken.
abbrev pub new_name : (nowhere : ℕ) → (scope : List (List ℕ)) → Lexeme → ℕ
new_name nowhere scope l = cond (is_taken scope (name_of l)) (word_of l) nowhere

-- The new names of pairs, each in scope from there on.
unfoldable pub new_pairs : (nowhere : ℕ) → (scope : List (List ℕ)) → (pairs : Items) → ℕ
new_pairs nowhere scope none = nowhere
new_pairs nowhere scope (tree l ops more) = min (new_name nowhere scope (item 0 ops)) (new_pairs nowhere (name_of (item 0 ops) ∷ scope) more)

-- The names of pairs, with their places and sorts.
unfoldable pub named_by : (pairs : Items) → List Named
named_by none = []
named_by (tree l ops more) =
    record { name = name_of (item 0 ops); at = word_of (item 0 ops); sort = sort_of (item 1 ops) (inside 1 ops) } ∷ named_by more

-- The place of a word among words.
use Rattle.std.specs.Prelude.{ℕ, ◌+◌, cond, List, [], ◌∷◌}
use Rattle.forest.specs.Lists.{same_bytes}

-- The place of the first of the words that is `word`, counted from k; past the last of them where none is.
unfoldable pub place_in : List (List ℕ) → (k : ℕ) → (word : List ℕ) → ℕ
place_in [] k word = k
place_in (w ∷ more) k word =
    let later = place_in more (k + 1) word in
    cond (same_bytes w word) k later

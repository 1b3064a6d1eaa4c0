-- What the functions that find where words start give.
use Rattle.std.specs.Prelude.{ℕ, ◌+◌, Bool, false, cond, List, [], ◌∷◌, drop}
use Rattle.words.specs.Spans.{comment_after, starts}

-- The first offset at which a word starts, of the bytes s, which stand at offset i, in a comment or not, and after no run; past the last byte if none does.
unfoldable pub first_from : List ℕ → ℕ → (comment : Bool) → ℕ
first_from [] i comment = i
first_from (b ∷ s) i comment =
    let later = first_from s (i + 1) (comment_after comment b) in
    cond (starts comment false b) i later

-- The first offset from i on at which a word starts, where neither a comment nor a run goes on.
unfoldable pub first_start : List ℕ → ℕ → ℕ
first_start text i = first_from (drop i text) i false

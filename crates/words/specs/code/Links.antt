-- What linking the rows of the word table asks and gives: the index past each word.
use Rattle.std.specs.Prelude.{ℕ, ◌+◌, ◌<◌, ◌≤◌, ◌^◌, List, ◌∷◌, ◌++◌, map, ◌≡◌, drop, length, take}
use Rattle.forest.specs.Tables.{rows}
use Rattle.words.specs.Table.{Entry, past_close, entries, next_of, row, word_table}
use Rattle.words.specs.Words.{Word}
use Rattle.words.specs.code.Rows.{unlinked}

-- The entries of words of which those from `at` on are linked.
unfoldable pub linked_from : List Word → (at : ℕ) → List Entry
linked_from ws at = map unlinked (take at ws) ++ entries (drop at ws) at

-- A table of `count` words, of which those from `at` on are linked.
pub record Linking (table : List ℕ) (count at : ℕ) : Type 0 where
  pub ws : List Word
  pub rest : List ℕ
  pub is : table ≡ rows row (linked_from ws at) ++ rest
  pub counted : count ≡ length ws
  pub reached : at ≤ count
  pub small : count < 2 ^ 32

-- The index past the bracket that closes the list in which word `at` stands.
abbrev pub Closing : (table : List ℕ) (count at r : ℕ) → Type 0
Closing table count at r = (e : Linking table count at) → r ≡ past_close (drop at e.ws) 0 at

-- The index past word i, or past the list that it begins.
abbrev pub Next : (table : List ℕ) (count i r : ℕ) → Type 0
Next table count i r = (e : Linking table count (i + 1)) (w : Word) → drop i e.ws ≡ w ∷ drop (i + 1) e.ws → r ≡ next_of w (drop (i + 1) e.ws) i

-- The table with all of its words linked.
abbrev pub Linked : (table : List ℕ) (count : ℕ) (after : List ℕ) → Type 0
Linked table count after = (e : Linking table count count) → after ≡ word_table e.ws ++ e.rest

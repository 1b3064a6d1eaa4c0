-- What the search for a word asks of the words: they stand one after the other in a list of bytes, and each has a slot of its own in a table of slots.
use Rattle.std.specs.Prelude.{ℕ, ◌+◌, ◌*◌, ◌-◌, ◌%◌, ◌≤◌, ◌<◌, ◌≡◌, List, [], ◌∷◌, ◌++◌, drop, get_or, length, take}

-- The words that stand one after the other in `names`: each from its own of the `starts` to the next of them, the last of which is where the last word ends.
unfoldable pub words_in : (names starts : List ℕ) → List (List ℕ)
words_in names [] = []
words_in names (start ∷ []) = []
words_in names (start ∷ end ∷ more) = take (end - start) (drop start names) ∷ words_in names (end ∷ more)

-- What the search asks of the starts: there is one at least, none is greater than the next, and each is within `names`.
pub record Rising (names starts : List ℕ) : Type 0 where
  pub some : 0 < length starts
  pub rises : (k : ℕ) → k + 1 < length starts → get_or starts k 0 ≤ get_or starts (k + 1) 0
  pub within : (k : ℕ) → k < length starts → get_or starts k 0 ≤ length names

-- How many slots there are.
abbrev pub slot_count : ℕ
slot_count = 512

-- The slot of a word, where the bytes before it led to `slot`. Any numbers serve here by which no two of the words share a slot.
unfoldable pub slot_from : (slot : ℕ) → (word : List ℕ) → ℕ
slot_from slot [] = slot
slot_from slot (b ∷ word) = slot_from ((7 * slot + b) % slot_count) word

-- The slot of a word.
abbrev pub slot_of : (word : List ℕ) → ℕ
slot_of word = slot_from 13 word

-- What the search asks of the slots: the slot of each word has its place.
pub record Slotted (names starts slots : List ℕ) : Type 0 where
  pub rising : Rising names starts
  pub long : length slots ≡ slot_count
  pub slotted : (k : ℕ) → k + 1 < length starts → get_or slots (slot_of (get_or (words_in names starts) k [])) 0 ≡ k

-- The words, one after the other.
abbrev pub joined : (words : List (List ℕ)) → List ℕ
joined [] = []
joined (w ∷ words) = w ++ joined words

-- Where each of the words ends, the first of which starts at `start`.
abbrev pub ends_from : (start : ℕ) → (words : List (List ℕ)) → List ℕ
ends_from start [] = []
ends_from start (w ∷ words) = (start + length w) ∷ ends_from (start + length w) words

-- Where each of the words starts, and where the last of them ends.
abbrev pub starts_of : (words : List (List ℕ)) → List ℕ
starts_of words = 0 ∷ ends_from 0 words

-- The slots are those of the words.
abbrev pub SlotsOf : (words : List (List ℕ)) → (slots : List ℕ) → Type 0
SlotsOf words slots = Slotted (joined words) (starts_of words) slots

-- The three tables are those of the words.
pub record TablesOf (words : List (List ℕ)) (names starts slots : List ℕ) : Type 0 where
  pub names_are : names ≡ joined words
  pub starts_are : starts ≡ starts_of words
  pub slots_are : SlotsOf words slots

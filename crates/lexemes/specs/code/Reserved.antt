-- The numbers of the words that the reader tells apart.
use Rattle.std.specs.Prelude.{ℕ, ◌+◌, cond, List, [], ◌∷◌, ◌++◌, map, length}
use Prim.Native.String.{String}
use Rattle.forest.specs.Lists.{spelling}
use Rattle.forest.specs.code.Search.{TablesOf}
use Rattle.word_kinds.specs.Decimals.{is_decimal, is_long}
use Rattle.operators.specs.Operators.{Operator, operators}
use Rattle.operators.specs.code.Operators.{spellings}
use Rattle.lexemes.specs.declared.reserved.WordTable.{WordTable}
use Rattle.lexemes.specs.Reserved.{carried_commands, other_commands, other_words, is_word}

-- Words that are not reserved but told apart: the logic that is carried, and the two responses that are no list.
abbrev pub unreserved_words : List String
unreserved_words = "BV" ∷ "fail" ∷ "infeasible" ∷ []

-- The words before the operators.
abbrev pub first_words : List String
first_words = unreserved_words ++ carried_commands ++ other_commands ++ other_words

-- Their bytes.
unfoldable pub first_spellings : List (List ℕ)
first_spellings = map spelling first_words

-- The words that the reader tells apart; the operators are the last, so that one more of them moves no other.
unfoldable pub known_words : List String
known_words = unreserved_words ++ carried_commands ++ other_commands ++ other_words ++ map (λ (o : Operator). o.name) operators

-- The place of the first of the words that a name is, counted from k; past the last of them where it is none.
unfoldable pub place_among : List String → (k : ℕ) → (name : List ℕ) → ℕ
place_among [] k name = k
place_among (w ∷ more) k name =
    let later = place_among more (k + 1) name in
    cond (is_word w name) k later

-- The number of a name: its place among the known words; past the last of them where it is none, one more for the word of a constant `(_ bvN n)`, and two
-- more for one of too many digits.
unfoldable pub word_number : (name : List ℕ) → ℕ
word_number name = cond (is_decimal name) (length known_words + cond (is_long name) 2 1) (place_among known_words 0 name)

-- The tables of the words before the operators, and those of the operators.
pub record KnownTables (first operatorTable : WordTable) : Type 0 where
  pub first_are : TablesOf first_spellings first.names.now first.starts.now first.slots.now
  pub operators_are : TablesOf (spellings operators) operatorTable.names.now operatorTable.starts.now operatorTable.slots.now

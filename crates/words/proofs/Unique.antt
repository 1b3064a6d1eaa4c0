-- The public calls of the reader of words have one outcome: no second one satisfies their contracts.
use Prim.Native.Nat.{ℕ}
use mathlib.Core.List.{List}
use mathlib.Core.Path.{◌≡◌, sym, ap, ap₂, ◌∙◌}
use lib.ListN.{length}
use Rattle.forest.specs.Tables.{over}
use Rattle.words.specs.Answers.{Reading, number_of, passed, place_of}
use Rattle.words.specs.Positions.{Positioned, end_of}
use Rattle.words.specs.Reading.{ReadWords, WordsForC, words_read}
use Rattle.words.specs.Words.{enquired}
use Rattle.words.specs.Table.{word_table, word_values}
use Rattle.words.specs.declared.Limits.{Limits}
use Rattle.words.specs.declared.Position.{Position}

-- `read_words`: what is found, and what stands in the two lent areas afterwards.
pub read-words : {limits : Limits} {text table values : List ℕ} {r s : Reading} {tableOne tableOther valuesOne valuesOther : List ℕ}
    → ReadWords limits text table values r tableOne valuesOne → ReadWords limits text table values s tableOther valuesOther
    → (r ≡ s) × (tableOne ≡ tableOther) × (valuesOne ≡ valuesOther)
read-words {text = text} {table} {values} one other =
    let same = one.found ∙ sym other.found in (
      same,
      one.table_is ∙ ap (λ (r : Reading). over (word_table (words_read text r)) table) same ∙ sym other.table_is,
      one.values_are ∙ ap (λ (r : Reading). over (word_values (words_read text r)) values) same ∙ sym other.values_are,
    )

-- `sverdhyll_words`: the number, the place, the count, and what stands in the two lent areas afterwards.
pub words_for_c : {limits : Limits} {text table values : List ℕ} {n m p q c d : ℕ} {tableOne tableOther valuesOne valuesOther : List ℕ}
    → WordsForC limits text table values n p c tableOne valuesOne → WordsForC limits text table values m q d tableOther valuesOther
    → (n ≡ m) × (p ≡ q) × (c ≡ d) × (tableOne ≡ tableOther) × (valuesOne ≡ valuesOther)
words_for_c one other =
    let same = read-words one.read other.read in (
      one.number_is ∙ ap number_of same.0 ∙ sym other.number_is,
      one.place_is ∙ ap place_of same.0 ∙ sym other.place_is,
      one.count_is ∙ ap passed same.0 ∙ sym other.count_is,
      same.1,
      same.2,
    )

-- `word_at`: the bytes of the part.
pub word_at : (text : List ℕ) (at : ℕ) {one other : List ℕ} → one ≡ enquired text at → other ≡ enquired text at → one ≡ other
word_at text at e h = e ∙ sym h

-- `sverdhyll_word`: the length of the part.
pub word_for_c : (text : List ℕ) (at : ℕ) {n m : ℕ} → n ≡ length (enquired text at) → m ≡ length (enquired text at) → n ≡ m
word_for_c text at e h = e ∙ sym h

-- `position`, and `sverdhyll_position` too: the line and the column.
pub position : {text : List ℕ} {place : ℕ} {p q : Position} → Positioned text place p → Positioned text place q → p ≡ q
position one other =
    let line = one.line_is ∙ sym other.line_is in
    let column = one.column_is ∙ sym other.column_is in
    ap₂ {C = Position} (λ (l c : ℕ). record { line = l; column = c }) line column

-- `end_of`: the offset past the word.
pub end-of : (text : List ℕ) (place : ℕ) {n m : ℕ} → n ≡ end_of text place → m ≡ end_of text place → n ≡ m
end-of text place e h = e ∙ sym h

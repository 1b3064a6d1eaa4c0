-- What the reading of the words and lexemes of one text asks and gives.
use Rattle.std.specs.Prelude.{ℕ, ◌≤◌, List, ◌++◌, ◌≡◌, length, Ok}
use Rattle.words.specs.Reading.{reading_of}
use Rattle.words.specs.Table.{row_width as wordWidth}
use Rattle.words.specs.Words.{words_of}
use Rattle.lexemes.specs.code.Table.{lexeme_table, row_width as lexemeWidth}
use Rattle.words.specs.Answers.{Reading, number_of, passed}
use Rattle.words.specs.declared.Limits.{Limits}
use Rattle.texts.specs.code.Texts.{RowEach}

-- The limits allow at most so many words, and there is a row for each word.
pub record Room (most : ℕ) (limits : Limits) (text lexemes : List ℕ) : Type 0 where
  pub few_words : limits.words ≤ most
  pub lexemes_room : RowEach limits text lexemeWidth lexemes

-- There is a row, a value and a lexeme for each word.
pub record Rooms (limits : Limits) (text words values lexemes : List ℕ) : Type 0 where
  pub words_room : RowEach limits text wordWidth words
  pub values_room : RowEach limits text 1 values
  pub lexemes_room : RowEach limits text lexemeWidth lexemes

-- A text is read whole, and the table begins with its lexemes.
pub record Worded (limits : Limits) (text lexemes : List ℕ) (n : ℕ) : Type 0 where
  pub whole : reading_of limits text ≡ Ok n
  pub few : n ≤ limits.words
  pub short : n ≤ length text
  pub rest : List ℕ
  pub is_lexemes : lexemes ≡ lexeme_table text (words_of text) ++ rest

-- What is found in the words of a text; where none is refused, the table holds their lexemes.
pub record Lexed (limits : Limits) (text lexemes : List ℕ) (r : Reading) : Type 0 where
  pub found : r ≡ reading_of limits text
  pub worded : number_of r ≡ 0 → Worded limits text lexemes (passed r)

-- Where the words of a text stand, for all that read one.
use Rattle.std.specs.Prelude.{ℕ, ◌*◌, ◌≤◌, List, ◌++◌, ◌≡◌, cond, leb, length}
use Rattle.forest.specs.Limits.{response_words, script_words}
use Rattle.words.specs.Words.{words_of}
use Rattle.words.specs.declared.Limits.{Limits}
use Rattle.lexemes.specs.code.Table.{lexeme_table}

-- How many bytes a short script has at most; it has no more words.
abbrev pub short_script : ℕ
short_script = 2048

-- How many bytes a short response has at most.
abbrev pub short_response : ℕ
short_response = 512

-- How many bytes a script of middle length has at most.
abbrev pub middle_script : ℕ
middle_script = 4096

-- How many rows the tables of a script have, by how many bytes it has.
abbrev pub script_rows : (bytes : ℕ) → ℕ
script_rows n = cond (leb n short_script) short_script (cond (leb n middle_script) middle_script script_words)

-- How many rows the tables of a response have, by how many bytes it has.
abbrev pub response_rows : (bytes : ℕ) → ℕ
response_rows n = cond (leb n short_response) short_response response_words

-- How many rows the table of a text's words has, by how many words the text can have at most.
abbrev pub word_rows : (most : ℕ) → ℕ
word_rows n = cond (leb n short_response) short_response (script_rows n)

-- A table has a row of so many numbers for each word that a text can have within limits.
pub record RowEach (limits : Limits) (text : List ℕ) (width : ℕ) (table : List ℕ) : Type 0 where
  pub room : (n : ℕ) → n ≤ limits.words → n ≤ length text → width * n ≤ length table

-- The table begins with the lexemes of a text, whose words are so many.
pub record Placed (text lexemes : List ℕ) (count : ℕ) : Type 0 where
  pub rest : List ℕ
  pub is_lexemes : lexemes ≡ lexeme_table text (words_of text) ++ rest
  pub counted : count ≡ length (words_of text)

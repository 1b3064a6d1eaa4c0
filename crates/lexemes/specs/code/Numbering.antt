-- What filling the table of lexemes asks and gives.
use Rattle.std.specs.Prelude.{ℕ, ◌+◌, ◌*◌, ◌≤◌, ◌<◌, cond, List, [], ◌∷◌, ◌++◌, ◌≡◌, eqb, ltb, get_or, length}
use Rattle.std.proofs.lemmas.List.Edits.{sets}
use Rattle.word_kinds.specs.declared.Kind.TheVariants.{Keyword}
use Rattle.words.specs.Table.{kind_number, word_table, word_values}
use Rattle.words.specs.code.Table.{end_at, next_at, start_at, width_at}
use Rattle.words.specs.Words.{words_of}
use Rattle.lexemes.specs.code.Codes.{weights_code}
use Rattle.lexemes.specs.code.Table.{keyword_code, row_width, symbol_code}

-- The tables that are lent hold the words of a text and have room for its lexemes.
pub record Numbering (text words values lexemes : List ℕ) (count : ℕ) : Type 0 where
  pub rest : List ℕ
  pub more : List ℕ
  pub is_words : words ≡ word_table (words_of text) ++ rest
  pub is_values : values ≡ word_values (words_of text) ++ more
  pub counted : count ≡ length (words_of text)
  pub room : row_width * count ≤ length lexemes

-- The code of a word by the number of its kind and its bytes.
abbrev pub code_by : (kind : ℕ) → (bytes : List ℕ) → ℕ
code_by kind bytes = cond (ltb kind weights_code) kind (cond (eqb kind (kind_number Keyword)) (keyword_code bytes) (symbol_code bytes))

-- There is a value and a row for word i.
pub record RowRoom (values lexemes : List ℕ) (i : ℕ) : Type 0 where
  pub valued : i < length values
  pub room : row_width * (i + 1) ≤ length lexemes

-- The row of word i, which has a code, is put in its place.
abbrev pub RowPut : (words values : List ℕ) → (i code : ℕ) → (lexemes lexemesAfter : List ℕ) → Type 0
RowPut words values i code lexemes lexemesAfter =
    lexemesAfter
    ≡ sets lexemes (row_width * i) (code ∷ next_at words i ∷ get_or values i 0 ∷ start_at words i ∷ end_at words i ∷ width_at words i ∷ [])

-- The table of lexemes: six numbers for each word of a text, brackets counted. The reader of scripts and responses goes by this table alone, but for the
-- bytes of names and literals.
use Rattle.std.specs.Prelude.{ℕ, ◌+◌, cond, List, [], ◌∷◌}
use Rattle.forest.specs.code.Rows.{number_at}
use Rattle.forest.specs.Tables.{rows}
use Rattle.lexemes.specs.Reserved.{is_word}
use Rattle.lexemes.specs.code.Reserved.{word_number}
use Rattle.word_kinds.specs.declared.Kind.{Kind}
use Rattle.word_kinds.specs.declared.Kind.TheVariants.{Open, Close, Numeral, Literal, Symbol, Keyword, Faulty}
use Rattle.words.specs.Table.{Entry, entries, value_of, width_of}
use Rattle.words.specs.Trees.{Lexeme, bytes_of, keyword, list, literal, numeral, symbol}
use Rattle.words.specs.Words.{Word}
use Rattle.lexemes.specs.code.Codes.{first_code, other_keyword_code, weight_code, weights_code}

-- The code of `(`.
abbrev pub open_code : ℕ
open_code = 1

-- The code of `)`.
abbrev pub close_code : ℕ
close_code = 2

-- The code of a numeral.
abbrev pub numeral_code : ℕ
numeral_code = 3

-- The code of a `#x` or `#b` word.
abbrev pub literal_code : ℕ
literal_code = 4

-- The code of a symbol: that of the first word, and its number among the words that the reader tells apart.
abbrev pub symbol_code : (name : List ℕ) → ℕ
symbol_code name = first_code + word_number name

-- The code of a keyword.
unfoldable pub keyword_code : (name : List ℕ) → ℕ
keyword_code name = cond (is_word ":weights" name) weights_code (cond (is_word ":weight" name) weight_code other_keyword_code)

-- The code of a word by its kind and its bytes; 0 stands past the end of a table.
abbrev pub kind_code : Kind → (bytes : List ℕ) → ℕ
kind_code Open bytes = open_code
kind_code Close bytes = close_code
kind_code (Numeral v) bytes = numeral_code
kind_code (Literal width v) bytes = literal_code
kind_code Symbol bytes = symbol_code bytes
kind_code Keyword bytes = keyword_code bytes
kind_code (Faulty fault) bytes = 0

-- How many numbers a row has.
abbrev pub row_width : ℕ
row_width = 6

-- The row of a word: its code, the word past it or past the list that it begins, its value, where it starts and ends, and its width.
abbrev pub lexeme_row : (text : List ℕ) → Entry → List ℕ
lexeme_row text e =
    kind_code e.word.kind (bytes_of text e.word) ∷ e.next ∷ value_of e.word.kind ∷ e.word.start ∷ e.word.end ∷ width_of e.word.kind ∷ []

-- The table of a text's words.
unfoldable pub lexeme_table : (text : List ℕ) → List Word → List ℕ
lexeme_table text ws = rows (lexeme_row text) (entries ws 0)

-- The code of word i.
abbrev pub code_at : List ℕ → ℕ → ℕ
code_at lexemes i = number_at row_width lexemes i 0

-- The word past word i, or past the list that it begins.
abbrev pub next_at : List ℕ → ℕ → ℕ
next_at lexemes i = number_at row_width lexemes i 1

-- The value of word i, which is a numeral or a literal; 0 for another word.
abbrev pub value_at : List ℕ → ℕ → ℕ
value_at lexemes i = number_at row_width lexemes i 2

-- Where word i starts.
abbrev pub start_at : List ℕ → ℕ → ℕ
start_at lexemes i = number_at row_width lexemes i 3

-- Where word i ends.
abbrev pub end_at : List ℕ → ℕ → ℕ
end_at lexemes i = number_at row_width lexemes i 4

-- The width of word i, which is a literal; 0 for another word.
abbrev pub width_at : List ℕ → ℕ → ℕ
width_at lexemes i = number_at row_width lexemes i 5

-- The code of a lexeme's first word.
abbrev pub code_of : Lexeme → ℕ
code_of (list at close) = open_code
code_of (numeral at v) = numeral_code
code_of (literal at width v written) = literal_code
code_of (symbol at name) = symbol_code name
code_of (keyword at name) = keyword_code name

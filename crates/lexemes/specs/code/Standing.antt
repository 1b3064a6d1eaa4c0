-- Where items stand in the tables of a text: what the passes of the reader ask of the tables and give of the items. Definitions that serve a step.
use Rattle.std.specs.Prelude.{ℕ, ◌+◌, ◌-◌, false, List, [], ◌≡◌, drop, take}
use Rattle.forest.specs.Forest.{none, tree}
use Rattle.words.specs.Trees.{Lexeme, keyword, list, literal, numeral, symbol, word_of}
use Rattle.words.specs.Words.{words_of}
use Rattle.lexemes.specs.Lists.{Items, after, is_list, is_numeral}
use Rattle.lexemes.specs.code.Table.{close_code, code_at, code_of, end_at, lexeme_table, next_at, open_code, start_at, value_at, width_at}

-- What was read of a text: its bytes and its table of lexemes.
pub record Source : Type 0 where
  pub text : List ℕ
  pub lexemes : List ℕ

-- What is read of a text where all of its words are read.
abbrev pub all_of : (text : List ℕ) → Source
all_of text = record { text = text; lexemes = lexeme_table text (words_of text) }

-- The bytes of word i.
abbrev pub spelt : Source → ℕ → List ℕ
spelt s i = take (end_at s.lexemes i - start_at s.lexemes i) (drop (start_at s.lexemes i) s.text)

-- The bytes that a lexeme keeps.
abbrev pub bytes_kept : Lexeme → List ℕ
bytes_kept (list at close) = []
bytes_kept (numeral at v) = []
bytes_kept (symbol at name) = name
bytes_kept (keyword at name) = name
bytes_kept (literal at width v written) = written

-- The width of a literal, 0 of another lexeme.
abbrev pub width_of : Lexeme → ℕ
width_of (list at close) = 0
width_of (numeral at v) = 0
width_of (symbol at name) = 0
width_of (keyword at name) = 0
width_of (literal at width v written) = width

-- The value of a numeral or a literal, 0 of another lexeme.
abbrev pub value_of : Lexeme → ℕ
value_of (list at close) = 0
value_of (numeral at v) = v
value_of (symbol at name) = 0
value_of (keyword at name) = 0
value_of (literal at width v written) = v

-- Word i is the lexeme, which is no list.
pub record WordIs (s : Source) (i : ℕ) (l : Lexeme) : Type 0 where
  pub no_list : is_list l ≡ false
  pub placed : word_of l ≡ i
  pub coded : code_at s.lexemes i ≡ code_of l
  pub valued : value_at s.lexemes i ≡ value_of l
  pub followed : next_at s.lexemes i ≡ i + 1
  pub wide : width_at s.lexemes i ≡ width_of l
  pub written : is_numeral l ≡ false → spelt s i ≡ bytes_kept l

-- Word i opens a list that word c closes.
pub record ListIs (s : Source) (i c : ℕ) : Type 0 where
  pub opened : code_at s.lexemes i ≡ open_code
  pub closed : code_at s.lexemes c ≡ close_code
  pub followed : next_at s.lexemes i ≡ c + 1

-- Items stand from word i to before word e.
pub data Stands (s : Source) : (i : ℕ) → Items → (e : ℕ) → Type 0 where
  ends : {i : ℕ} → Stands s i none i
  word : {i e : ℕ} {l : Lexeme} {more : Items} → WordIs s i l → Stands s (i + 1) more e → Stands s i (tree l none more) e
  bracketed : {i c e : ℕ} {ops more : Items} → ListIs s i c → Stands s (i + 1) ops c → Stands s (c + 1) more e
      → Stands s i (tree (list i c) ops more) e

-- Items stand from word i to before word e.
pub record Between (lexemes : List ℕ) (i e : ℕ) : Type 0 where
  pub source : Source
  pub same : source.lexemes ≡ lexemes
  pub items : Items
  pub stands : Stands source i items e

-- An item stands at word i, and others behind it.
pub record ItemAt (lexemes : List ℕ) (i : ℕ) : Type 0 where
  pub source : Source
  pub same : source.lexemes ≡ lexemes
  pub label : Lexeme
  pub operands : Items
  pub more : Items
  pub end : ℕ
  pub stands : Stands source i (tree label operands more) end

-- A list stands at word i, and other items behind it.
pub record ListAt (lexemes : List ℕ) (i : ℕ) : Type 0 where
  pub source : Source
  pub same : source.lexemes ≡ lexemes
  pub close : ℕ
  pub operands : Items
  pub more : Items
  pub end : ℕ
  pub stands : Stands source i (tree (list i close) operands more) end

-- Item n of those that stand from word i to word e stands at word j, with what is behind it.
pub record Reached (lexemes : List ℕ) (i e : ℕ) (n : ℕ) (b : Between lexemes i e) (j : ℕ) : Type 0 where
  pub stands : Stands b.source j (after n b.items) e

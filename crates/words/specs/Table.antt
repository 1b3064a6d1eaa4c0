-- The word table: five numbers for each word, and its value in a list beside it.
use Rattle.std.specs.Prelude.{ℕ, ◌+◌, ◌-◌, Bool, cond, List, [], ◌∷◌, map, eqb}
use Rattle.forest.specs.Tables.{rows}
use Rattle.words.specs.Words.{Word}
use Rattle.word_kinds.specs.declared.Kind.{Kind}
use Rattle.word_kinds.specs.declared.Kind.TheVariants.{Open, Close, Numeral, Literal, Symbol, Keyword, Faulty}

-- How many numbers a row has.
abbrev pub row_width : ℕ
row_width = 5

-- The number of a kind in the table. A faulty word has no row, and 0 stands past the end of a table.
abbrev pub kind_number : Kind → ℕ
kind_number Open = 1
kind_number Close = 2
kind_number (Numeral v) = 3
kind_number (Literal width v) = 4
kind_number Symbol = 5
kind_number Keyword = 6
kind_number (Faulty fault) = 0

-- Whether a word is `(`.
abbrev pub opens : Kind → Bool
opens kind = eqb (kind_number kind) 1

-- Whether a word is `)`.
abbrev pub closes : Kind → Bool
closes kind = eqb (kind_number kind) 2

-- The width of a literal in bits; 0 for any other word.
abbrev pub width_of : Kind → ℕ
width_of (Literal width v) = width
width_of (Numeral v) = 0
width_of Open = 0
width_of Close = 0
width_of Symbol = 0
width_of Keyword = 0
width_of (Faulty fault) = 0

-- The value of a numeral or a literal; 0 for any other word.
abbrev pub value_of : Kind → ℕ
value_of (Literal width v) = v
value_of (Numeral v) = v
value_of Open = 0
value_of Close = 0
value_of Symbol = 0
value_of Keyword = 0
value_of (Faulty fault) = 0

-- The index past the bracket that closes the list in which the words stand, the first of which has index i and is within `inner` lists more; the index past the
-- last word where no bracket closes it.
unfoldable pub past_close : List Word → (inner i : ℕ) → ℕ
past_close [] inner i = i
past_close (w ∷ more) inner i =
    let opened = past_close more (inner + 1) (i + 1) in
    let closed = past_close more (inner - 1) (i + 1) in
    let later = past_close more inner (i + 1) in
    cond (opens w.kind) opened
    (cond (closes w.kind) (cond (eqb inner 0) (i + 1) closed)
    later)

-- The index past the word w, which has index i and is followed by the words `more`; past the list that it begins where it is `(`.
unfoldable pub next_of : Word → List Word → ℕ → ℕ
next_of w more i = cond (opens w.kind) (past_close more 0 (i + 1)) (i + 1)

-- A word with the index past it.
pub record Entry : Type 0 where
  pub word : Word
  pub next : ℕ

-- The words, the first of which has index i, each with the index past it.
unfoldable pub entries : List Word → ℕ → List Entry
entries [] i = []
entries (w ∷ more) i = record { word = w; next = next_of w more i } ∷ entries more (i + 1)

-- The row of a word: its kind, start, end, width and next.
abbrev pub row : Entry → List ℕ
row e = kind_number e.word.kind ∷ e.word.start ∷ e.word.end ∷ width_of e.word.kind ∷ e.next ∷ []

-- The table of the words.
unfoldable pub word_table : List Word → List ℕ
word_table ws = rows row (entries ws 0)

-- The values of the words.
unfoldable pub word_values : List Word → List ℕ
word_values ws = map (λ (w : Word). value_of w.kind) ws

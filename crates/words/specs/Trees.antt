-- The words of a text gathered into lists: a forest whose labels are words. It is defined for every list of words, whether its brackets are closed or not.
use Rattle.std.specs.Prelude.{ℕ, ◌+◌, ◌-◌, List, [], ◌∷◌, drop, take}
use Rattle.forest.specs.Forest.{Forest, none, tree}
use Rattle.word_kinds.specs.declared.Kind.{Kind}
use Rattle.word_kinds.specs.declared.Kind.TheVariants.{Open, Close, Numeral, Literal, Symbol, Keyword, Faulty}
use Rattle.words.specs.Words.{Word}

-- A word in a list, or a list. Each has its index among the words of the text.
pub data Lexeme : Type 0 where
  -- a list, by the indices of its two brackets; where no bracket closes it, the second is the number of words. Its words and lists are its operands
  list : (at close : ℕ) → Lexeme
  -- a symbol, with its bytes
  symbol : (at : ℕ) → (name : List ℕ) → Lexeme
  -- a keyword, with its bytes
  keyword : (at : ℕ) → (name : List ℕ) → Lexeme
  -- a numeral, with its value
  numeral : (at value : ℕ) → Lexeme
  -- a `#x` or `#b` word, with its width, its value and its bytes
  literal : (at width value : ℕ) → (written : List ℕ) → Lexeme

-- The first word of a lexeme.
abbrev pub word_of : Lexeme → ℕ
word_of (list at close) = at
word_of (symbol at name) = at
word_of (keyword at name) = at
word_of (numeral at value) = at
word_of (literal at width value written) = at

-- What a list that is still open holds from some word on, and the index of the bracket that closes it.
pub record Level : Type 0 where
  pub close : ℕ
  pub items : Forest Lexeme

-- The innermost of the open lists; where none is open, the text itself, whose end is past the last word.
abbrev pub inner : (past : ℕ) → List Level → Level
inner past [] = record { close = past; items = none }
inner past (l ∷ ls) = l

-- The open lists but the innermost.
abbrev pub outer : List Level → List Level
outer [] = []
outer (l ∷ ls) = ls

-- One more at the front of the innermost open list.
abbrev pub with_item : (past : ℕ) → Lexeme → (operands : Forest Lexeme) → List Level → List Level
with_item past l operands levels = record { close = (inner past levels).close; items = tree l operands (inner past levels).items } ∷ outer levels

-- The bytes of a word.
abbrev pub bytes_of : (text : List ℕ) → Word → List ℕ
bytes_of text w = take (w.end - w.start) (drop w.start text)

-- The open lists before word i, which is of the kind, by those before the next word.
unfoldable pub levels_before : (text : List ℕ) → (past i : ℕ) → Word → Kind → List Level → List Level
levels_before text past i w Open levels = with_item past (list i (inner past levels).close) (inner past levels).items (outer levels)
levels_before text past i w Close levels = record { close = i; items = none } ∷ levels
levels_before text past i w (Numeral v) levels = with_item past (numeral i v) none levels
levels_before text past i w (Literal width v) levels = with_item past (literal i width v (bytes_of text w)) none levels
levels_before text past i w Symbol levels = with_item past (symbol i (bytes_of text w)) none levels
levels_before text past i w Keyword levels = with_item past (keyword i (bytes_of text w)) none levels
levels_before text past i w (Faulty fault) levels = levels

-- The open lists before the words, the first of which has index i, of a text of `past` words; the innermost first.
unfoldable pub levels_at : (text : List ℕ) → (past : ℕ) → List Word → (i : ℕ) → List Level
levels_at text past [] i = []
levels_at text past (w ∷ more) i = levels_before text past i w w.kind (levels_at text past more (i + 1))

-- What stands from word i on to the end of the list in which it stands.
unfoldable pub trees_from : (text : List ℕ) → (past : ℕ) → List Word → (i : ℕ) → Forest Lexeme
trees_from text past ws i = (inner past (levels_at text past ws i)).items

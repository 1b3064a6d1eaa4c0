-- What the parts of the look-up of names have in common.
use Rattle.std.specs.Prelude.{ℕ, ◌+◌, ◌*◌, ◌≤◌, ◌<◌, ◌^◌, false, ◌||◌, List, ◌≡◌, length}
use Rattle.std.proofs.Math.Option.{Option}
use Rattle.forest.specs.Limits.{most_defined, most_functions, most_non_terminals}
use Rattle.word_kinds.specs.Limits.{numeral_digits}
use Rattle.operators.specs.Operators.{operator_count}
use Rattle.operators.specs.code.Operators.{extract_number}
use Rattle.operators.specs.Sorts.{Fit, max_width}
use Rattle.lexemes.specs.Reserved.{is_word}
use Rattle.terms.specs.code.Codes.{code_with, operator_kind}
use Rattle.derivation.specs.Derivation.{Item}
use Rattle.derivation.specs.code.Tables.{item_code, item_value}
use Rattle.lexemes.specs.code.Standing.{Source, spelt}
use Rattle.lexemes.specs.code.Table.{code_at, literal_code, numeral_code, value_at, width_at}
use Rattle.term_nodes.specs.Terms.{Raw, constant, cut, decimal, number, pattern, word}
use Rattle.names.specs.Scopes.{View, defined_names, function_names, in_order, item_or, names_of, named_sorts}
use Rattle.names.specs.code.Table.{
  declared_from,
  defined_row,
  function_row,
  length_in,
  longest,
  names_from,
  non_terminal_row,
  row_count,
  row_width,
  sort_in,
  sorts_from,
  words_told,
}
use Rattle.names.specs.declared.Meaning.{Meaning}
use Rattle.names.specs.declared.Seen.{Seen}

-- A table of names: its size, no name is too long, and no sort is too wide.
pub record Names (names : List ℕ) : Type 0 where
  pub sized : length names ≡ row_width * row_count
  pub short : (r : ℕ) → r < row_count → length_in names r ≤ longest
  pub narrow : (r : ℕ) → r < row_count → sort_in names r ≤ max_width

-- Two tables hold the same in m rows from row r on.
pub record SameRows (one other : List ℕ) (r m : ℕ) : Type 0 where
  pub names : names_from one r m ≡ names_from other r m
  pub sorts : sorts_from one r m ≡ sorts_from other r m
  pub declared : declared_from one r m ≡ declared_from other r m

-- The rows of a table but n from `row` on are what they were.
pub record Kept (names : List ℕ) (row n : ℕ) (namesAfter : List ℕ) : Type 0 where
  pub rows_before : (r m : ℕ) → r + m ≤ row → SameRows namesAfter names r m
  pub rows_behind : (r m : ℕ) → row + n ≤ r → SameRows namesAfter names r m

-- Every symbol of a text is a name that a row holds.
abbrev pub ShortNames : Source → Type 0
ShortNames s = (i : ℕ) → literal_code < code_at s.lexemes i → length (spelt s i) ≤ longest

-- Every word of a text is one that a row tells.
abbrev pub LowWords : Source → Type 0
LowWords s = (i : ℕ) → 0 < code_at s.lexemes i → i < words_told

-- The rows that are seen hold what the view says; `define-fun`s and functions stand in script order.
pub record Sees (names : List ℕ) (seen : Seen) (view : View) : Type 0 where
  pub table : Names names
  pub names_are : names_from names seen.first seen.names ≡ names_of view.names
  pub sorts_are : sorts_from names seen.first seen.names ≡ named_sorts view.names
  pub defined_are : names_from names defined_row seen.defined ≡ in_order (defined_names view.defined)
  pub functions_are : names_from names function_row seen.functions ≡ in_order (function_names view.functions)
  pub non_terminals_are : names_from names non_terminal_row seen.non_terminals ≡ names_of view.non_terminals
  pub names_fit : seen.first + seen.names ≤ row_count
  pub few_defined : seen.defined ≤ most_defined
  pub few_functions : seen.functions ≤ most_functions
  pub few_non_terminals : seen.non_terminals ≤ most_non_terminals

-- The two numbers are those of what a node stands for.
pub record Stated (i : Option Item) (m : Meaning) : Type 0 where
  pub code_is : m.code ≡ item_code (item_or i)
  pub value_is : m.value ≡ item_value (item_or i)

-- What was read of a text.
abbrev pub source_of : (text lexemes : List ℕ) → Source
source_of text lexemes = record { text = text; lexemes = lexemes }

-- The bytes of word i.
abbrev pub bytes_at : (text lexemes : List ℕ) → (i : ℕ) → List ℕ
bytes_at text lexemes i = spelt (source_of text lexemes) i

-- What the words of a text keep to: a numeral has at most nine digits, and a literal is a value of a sort of at most 64 bits.
pub record Bounded (s : Source) : Type 0 where
  pub numerals : (i : ℕ) → code_at s.lexemes i ≡ numeral_code → value_at s.lexemes i < 10 ^ numeral_digits
  pub fit : (i : ℕ) → code_at s.lexemes i ≡ literal_code → Fit (width_at s.lexemes i) (value_at s.lexemes i)

-- A symbol that heads a list is neither `Constant` nor `Variable`.
abbrev pub Headed : Raw → Type 0
Headed (word at head name) = at < head → is_word "Constant" name || is_word "Variable" name ≡ false
Headed (number at v) = Unit {0}
Headed (constant at width v) = Unit {0}
Headed (decimal at head name width) = Unit {0}
Headed (cut at head i j) = Unit {0}
Headed (pattern at c s held) = Unit {0}

-- The code of a node that stands for nothing: an operator that there is none of.
abbrev pub nothing_code : ℕ
nothing_code = code_with operator_kind operator_count

-- The code of `(_ extract i j)`.
abbrev pub cut_code : ℕ
cut_code = code_with operator_kind extract_number

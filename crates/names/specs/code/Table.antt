-- The table of names: 68 bytes for each name, its sort, the word at which it is declared in two bytes, the low one first, its length, and its bytes with zeros
-- behind them.
use Rattle.std.specs.Prelude.{ℕ, zero, suc, ◌+◌, ◌-◌, ◌*◌, ◌/◌, ◌%◌, List, [], ◌∷◌, ◌++◌, drop, get_or, length, replicate, take}
use Rattle.word_kinds.specs.Limits.{symbol_bytes}
use Rattle.names.specs.Earlier.{Declared}
use Rattle.forest.specs.Limits.{most_arguments, most_defined, most_functions, most_non_terminals, most_variables}

-- How many bytes a row has.
abbrev pub row_width : ℕ
row_width = 4 + symbol_bytes

-- How many words two bytes tell apart.
abbrev pub words_told : ℕ
words_told = 65536

-- "at most 64 bytes"
abbrev pub longest : ℕ
longest = symbol_bytes

-- The row of the first variable.
abbrev pub variable_row : ℕ
variable_row = 0

-- The row of the first `define-fun`.
abbrev pub defined_row : ℕ
defined_row = variable_row + most_variables

-- The row of the first synthesized function.
abbrev pub function_row : ℕ
function_row = defined_row + most_defined

-- The row of the first argument of a `define-fun`.
abbrev pub argument_row : ℕ
argument_row = function_row + most_functions

-- The row of the first non-terminal.
abbrev pub non_terminal_row : ℕ
non_terminal_row = argument_row + most_arguments

-- The row of the first argument of synthesized function j.
abbrev pub own_argument_row : (j : ℕ) → ℕ
own_argument_row j = non_terminal_row + most_non_terminals + most_arguments * j

-- How many rows there are.
abbrev pub row_count : ℕ
row_count = own_argument_row most_functions

-- The row of a name, its sort and the word at which it is declared.
abbrev pub name_row : (sort at : ℕ) → (name : List ℕ) → List ℕ
name_row sort at name = sort ∷ at % 256 ∷ at / 256 ∷ length name ∷ (name ++ replicate (longest - length name) 0)

-- The sort in row r.
abbrev pub sort_in : (names : List ℕ) → (r : ℕ) → ℕ
sort_in names r = get_or names (row_width * r) 0

-- The word at which the name in row r is declared.
abbrev pub word_in : (names : List ℕ) → (r : ℕ) → ℕ
word_in names r = get_or names (row_width * r + 1) 0 + 256 * get_or names (row_width * r + 2) 0

-- How long the name in row r is.
abbrev pub length_in : (names : List ℕ) → (r : ℕ) → ℕ
length_in names r = get_or names (row_width * r + 3) 0

-- The name in row r.
abbrev pub name_in : (names : List ℕ) → (r : ℕ) → List ℕ
name_in names r = take (length_in names r) (drop (row_width * r + 4) names)

-- The names in n rows from row r on.
unfoldable pub names_from : (names : List ℕ) → (r n : ℕ) → List (List ℕ)
names_from names r zero = []
names_from names r (suc n) = name_in names r ∷ names_from names (r + 1) n

-- The sorts in n rows from row r on.
unfoldable pub sorts_from : (names : List ℕ) → (r n : ℕ) → List ℕ
sorts_from names r zero = []
sorts_from names r (suc n) = sort_in names r ∷ sorts_from names (r + 1) n

-- The names in n rows from row r on, with the words at which they are declared.
unfoldable pub declared_from : (names : List ℕ) → (r n : ℕ) → List Declared
declared_from names r zero = []
declared_from names r (suc n) = record { name = name_in names r; at = word_in names r } ∷ declared_from names (r + 1) n

-- The table of the nodes of terms before their names are looked up: four numbers for each node, in the order of the text.
use Rattle.std.specs.Prelude.{ℕ, suc, ◌+◌, List, [], ◌∷◌, Bool, true, cond, ◌&&◌, eqb, ltb}
use Rattle.forest.specs.Forest.{Forest, Node, count, nodes_of, none}
use Rattle.forest.specs.code.Cursors.{size}
use Rattle.forest.specs.code.Rows.{number_at}
use Rattle.forest.specs.Tables.{rows}
use Rattle.term_nodes.specs.Terms.{Raw, first_word, raw_terms, word, number, constant, cut, decimal, pattern}
use Rattle.lexemes.specs.code.Codes.{other_code}
use Rattle.lexemes.specs.Lists.{Items, is, item}

-- The word that says what a node is: the symbol, the numeral, the literal, the word `bvN`, the i of `(_ extract i j)`, or `Constant` or `Variable`.
abbrev pub head_word : Raw → ℕ
head_word (word at head name) = head
head_word (number at v) = at
head_word (constant at width v) = at
head_word (decimal at head name width) = head
head_word (cut at head i j) = head
head_word (pattern at c s held) = at + 1

-- Whether a node is a constant `(_ bvN n)`, by its first word, the word that says what it is and the code of that.
unfoldable pub is_constant_head : (first head code : ℕ) → Bool
is_constant_head first head code = ltb other_code code && eqb head (first + 2)

-- The operands of a term, by the items of its list.
abbrev pub operands_of : Items → Forest Raw
operands_of ops = cond (is "_" (item 0 ops)) none (raw_terms true ops)

-- How many numbers a row has.
abbrev pub row_width : ℕ
row_width = 4

-- The row of a node: its first word, the word that says what it is, how many operands it has, and how many nodes its tree has.
abbrev pub raw_row : Node Raw → List ℕ
raw_row n = first_word n.label ∷ head_word n.label ∷ count n.operands ∷ suc (size n.operands) ∷ []

-- The same where the nodes of its tree are not counted yet.
abbrev pub uncounted : Node Raw → List ℕ
uncounted n = first_word n.label ∷ head_word n.label ∷ count n.operands ∷ 0 ∷ []

-- The table of terms.
unfoldable pub raw_table : Forest Raw → List ℕ
raw_table F = rows raw_row (nodes_of F)

-- The table of terms whose nodes are not counted yet.
unfoldable pub uncounted_table : Forest Raw → List ℕ
uncounted_table F = rows uncounted (nodes_of F)

-- The first word of node n.
abbrev pub first_at : List ℕ → ℕ → ℕ
first_at raw n = number_at row_width raw n 0

-- The word that says what node n is.
abbrev pub head_at : List ℕ → ℕ → ℕ
head_at raw n = number_at row_width raw n 1

-- How many operands node n has.
abbrev pub operands_at : List ℕ → ℕ → ℕ
operands_at raw n = number_at row_width raw n 2

-- How many nodes the tree of node n has.
abbrev pub size_at : List ℕ → ℕ → ℕ
size_at raw n = number_at row_width raw n 3

-- The node table: four numbers for each node of terms, in the order of the text.
use Rattle.std.specs.Prelude.{ℕ, suc, ◌<◌, List, [], ◌∷◌}
use Rattle.forest.specs.Forest.{Node, count, nodes_of, none, tree}
use Rattle.forest.specs.code.Cursors.{size}
use Rattle.forest.specs.code.Rows.{number_at}
use Rattle.forest.specs.Tables.{rows}
use Rattle.terms.specs.Labels.{Label, Terms, defined, function, literal, name, operator}
use Rattle.terms.specs.code.Codes.{code_with, defined_kind, function_kind, literal_kind, name_kind, operator_kind, cut_value, low_count}

-- The code of a label: its kind, and with it the sort of a literal or a name, or an operator's number.
abbrev pub code_of : Label → ℕ
code_of (literal s v) = code_with literal_kind s
code_of (name s k) = code_with name_kind s
code_of (operator o i j) = code_with operator_kind o
code_of (defined k) = code_with defined_kind 0
code_of (function k) = code_with function_kind 0

-- The value of a label: a literal's, the numbers of `(_ extract i j)`, or which name or function it is. It tells i and j only where j is small
-- enough (`Plain`), which the bounds of `extract` see to.
abbrev pub value_of : Label → ℕ
value_of (literal s v) = v
value_of (name s k) = k
value_of (operator o i j) = cut_value i j
value_of (defined k) = k
value_of (function k) = k

-- How many numbers a row has.
abbrev pub row_width : ℕ
row_width = 4

-- The row of a node: its label's code and value, how many operands it has, and how many nodes its tree has.
abbrev pub node_row : Node Label → List ℕ
node_row n = code_of n.label ∷ value_of n.label ∷ count n.operands ∷ suc (size n.operands) ∷ []

-- The table of terms.
unfoldable pub node_table : Terms → List ℕ
node_table t = rows node_row (nodes_of t)

-- The code of node i.
abbrev pub code_at : List ℕ → ℕ → ℕ
code_at nodes i = number_at row_width nodes i 0

-- The value of node i.
abbrev pub value_at : List ℕ → ℕ → ℕ
value_at nodes i = number_at row_width nodes i 1

-- How many operands node i has.
abbrev pub operands_at : List ℕ → ℕ → ℕ
operands_at nodes i = number_at row_width nodes i 2

-- How many nodes the tree at node i has.
abbrev pub size_at : List ℕ → ℕ → ℕ
size_at nodes i = number_at row_width nodes i 3

-- A label that its two numbers tell.
abbrev pub Plain : Label → Type 0
Plain (literal s v) = Unit {0}
Plain (operator o i j) = j < low_count
Plain (name s k) = Unit {0}
Plain (defined k) = Unit {0}
Plain (function k) = Unit {0}

-- Terms all of whose labels are told by their numbers.
unfoldable pub AllPlain : Terms → Type 0
AllPlain none = Unit {0}
AllPlain (tree l ops rest) = Plain l × AllPlain ops × AllPlain rest

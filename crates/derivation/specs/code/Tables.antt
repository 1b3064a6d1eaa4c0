-- The grammar and the body as tables of numbers.
use Rattle.std.specs.Prelude.{◌≡◌, ℕ, suc, ◌+◌, List, [], ◌∷◌}
use Rattle.forest.specs.Forest.{Forest, Node, count, join, nodes_of, none}
use Rattle.forest.specs.code.Cursors.{size}
use Rattle.forest.specs.Tables.{rows}
use Rattle.terms.specs.Labels.{Terms}
use Rattle.terms.specs.code.Nodes.{AllPlain, code_of, node_table, value_of}
use Rattle.derivation.specs.Derivation.{Grammar, Item, Rule, any_argument, any_literal, non_terminal, rule, the}
use Rattle.derivation.specs.code.Admitted.{Admitted, LeavesFit}
use Rattle.terms.specs.code.Codes.{any_argument_kind, any_literal_kind, code_with, non_terminal_kind}

-- The code of a node of a rule: its kind, and with it the sort of `(Constant σ)` or `(Variable σ)`.
abbrev pub item_code : Item → ℕ
item_code (the l) = code_of l
item_code (non_terminal A) = code_with non_terminal_kind 0
item_code (any_literal s) = code_with any_literal_kind s
item_code (any_argument s) = code_with any_argument_kind s

-- The value of a node of a rule: a label's, or a non-terminal's number.
abbrev pub item_value : Item → ℕ
item_value (the l) = value_of l
item_value (non_terminal A) = A
item_value (any_literal s) = 0
item_value (any_argument s) = 0

-- The row of a node of a rule: its code and value, how many operands it has, and how many nodes its tree has.
abbrev pub item_row : Node Item → List ℕ
item_row n = item_code n.label ∷ item_value n.label ∷ count n.operands ∷ suc (size n.operands) ∷ []

-- The table of forms.
unfoldable pub form_table : Forest Item → List ℕ
form_table F = rows item_row (nodes_of F)

-- The right sides of all rules, one after the other.
unfoldable pub right_sides : List Rule → Forest Item
right_sides [] = none
right_sides (rule A weight form ∷ more) = join form (right_sides more)

-- Three numbers for each rule: the node where its right side starts, its non-terminal, and its weight.
unfoldable pub rule_table : ℕ → List Rule → List ℕ
rule_table start [] = []
rule_table start (rule A weight form ∷ more) = start ∷ A ∷ weight ∷ rule_table (start + size form) more

-- The three slices hold the rules of G, their right sides, and the body F, whose labels are told by their numbers, whose literals are values of their sorts and
-- whose names are arguments of G's function.
pub record Holds (rules forms body : List ℕ) (G : Grammar) (F : Terms) : Type 0 where
  pub is_rules : rules ≡ rule_table 0 G.rules
  pub is_forms : forms ≡ form_table (right_sides G.rules)
  pub is_body : body ≡ node_table F
  pub plain : AllPlain F
  pub leaves : LeavesFit G.arguments F

-- The grammar and the body that the tables hold.
pub record Given (rules forms body : List ℕ) : Type 0 where
  pub G : Grammar
  pub F : Terms
  pub holds : Holds rules forms body G F
  pub admitted : Admitted G

-- The rules that a grammar lists, before their names are looked up. "Rules are numbered from 0 through the whole grammar."
use Rattle.std.specs.Prelude.{ℕ, ◌+◌, ◌-◌, min, cond, ◌&&◌, List, [], ◌∷◌, ◌++◌, eqb, leb, ltb}
use Rattle.forest.specs.Forest.{Forest, count, join, nodes_of, none, tree}
use Rattle.derivation.specs.Derivation.{most_weight}
use Rattle.words.specs.Trees.{Lexeme, word_of}
use Rattle.lexemes.specs.Lists.{Items, inside, is_numeral, item, numeral_of}
use Rattle.shapes.specs.Shapes.{attributes_of, is_annotated}
use Rattle.written_sorts.specs.Written.{least_in}
use Rattle.term_nodes.specs.Terms.{Raw, raw_rule, word_past}

-- A rule: the place of its non-terminal among those that are listed, its first word, its right side, and its attributes.
pub record Ruled : Type 0 where
  pub head : ℕ
  pub first : ℕ
  pub side : Forest Raw
  pub attributes : Items

-- The attributes of a rule; none, where it is written without.
abbrev pub attributes_in : Lexeme → Items → Items
attributes_in l ops = cond (is_annotated l ops) (attributes_of ops) none

-- The weight of a rule with such attributes, each `:weight` and a numeral: "a rule that doesn't carry exactly one such attribute weighs 0" (E13).
abbrev pub weight_by : (attributes : Items) → ℕ
weight_by attributes = cond (eqb (count attributes) 2) (numeral_of (item 1 attributes)) 0

-- "k to 65,535 (more: answer 4)" (E13): the word of a numeral that is past it.
abbrev pub attribute_past : (nowhere : ℕ) → Lexeme → Items → ℕ
attribute_past nowhere l ops = cond (is_numeral l && ltb most_weight (numeral_of l)) (word_of l) nowhere

-- The least of those among attributes.
abbrev pub attributes_past : (nowhere : ℕ) → (attributes : Items) → ℕ
attributes_past nowhere attributes = least_in nowhere (attribute_past nowhere) attributes

-- What a rule weighs.
abbrev pub weight_in : Ruled → ℕ
weight_in r = weight_by r.attributes

-- The rules of the non-terminal A.
unfoldable pub rules_of : (A : ℕ) → (rules : Items) → List Ruled
rules_of A none = []
rules_of A (tree l ops more) = record { head = A; first = word_of l; side = raw_rule l ops; attributes = attributes_in l ops } ∷ rules_of A more

-- The rules of the groups, of which the first is that of the non-terminal A.
unfoldable pub rules_in : (A : ℕ) → (groups : Items) → List Ruled
rules_in A none = []
rules_in A (tree l ops more) = rules_of A (inside 2 ops) ++ rules_in (A + 1) more

-- The right sides, one after the other.
unfoldable pub sides : List Ruled → Forest Raw
sides [] = none
sides (r ∷ more) = join r.side (sides more)

-- The first word of the item past the first `most`; nowhere, where there are no more than that: "the word past it, for a command, rule, argument,
-- non-terminal or node its first".
abbrev pub item_past : (nowhere most : ℕ) → Items → ℕ
item_past nowhere most items = cond (leb (count items) most) nowhere (word_of (item most items))

-- The first word of the rule past the first `most`: "128 rules a grammar".
unfoldable pub rule_past : (nowhere most : ℕ) → List Ruled → ℕ
rule_past nowhere most [] = nowhere
rule_past nowhere most (r ∷ more) = cond (leb 1 most) (rule_past nowhere (most - 1) more) r.first

-- The least word past a limit in a rule: "256 nodes .. a body, constraint or rule", a limit on a constant, or that on a weight.
abbrev pub side_past : (nowhere most : ℕ) → Ruled → ℕ
side_past nowhere most r = min (word_past nowhere most (nodes_of r.side)) (attributes_past nowhere r.attributes)

-- The least of those words of all rules.
unfoldable pub nodes_past : (nowhere most : ℕ) → List Ruled → ℕ
nodes_past nowhere most [] = nowhere
nodes_past nowhere most (r ∷ more) = min (side_past nowhere most r) (nodes_past nowhere most more)

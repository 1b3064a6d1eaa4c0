-- The terms that items say, before their names are looked up. What is said here is meant of items whose shape is right (5) and which are carried (6).
use Rattle.std.specs.Prelude.{ℕ, zero, suc, ◌+◌, min, Bool, true, false, cond, List, [], ◌∷◌, ltb}
use Rattle.forest.specs.Forest.{Forest, Node, none, tree}
use Rattle.word_kinds.specs.Decimals.{is_long}
use Rattle.operators.specs.Sorts.{max_width}
use Rattle.words.specs.Trees.{Lexeme, keyword, list, literal, numeral, symbol, word_of}
use Rattle.lexemes.specs.Lists.{Items, inside, is, is_constant_word, item, name_of, numeral_of}
use Rattle.shapes.specs.Shapes.{is_annotated, is_pattern}

-- A node of a term, with its first word.
pub data Raw : Type 0 where
  -- a symbol, or an application headed by one: its first word, the symbol's word and the symbol's bytes
  word : (at head : ℕ) → (name : List ℕ) → Raw
  -- a numeral
  number : (at value : ℕ) → Raw
  -- a `#x` or `#b` word: its width and its value
  constant : (at width value : ℕ) → Raw
  -- a constant `(_ bvN n)`: the word `bvN`, its bytes, and n
  decimal : (at head : ℕ) → (name : List ℕ) → (width : ℕ) → Raw
  -- `(_ extract i j)`, applied or by itself, with the word that is i
  cut : (at head i j : ℕ) → Raw
  -- `(Constant σ)` or, where it is not that, `(Variable σ)`, as a whole rule: its first word and the item σ
  pattern : (at : ℕ) → (constant : Bool) → (sort : Lexeme) → (held : Items) → Raw

-- The first word of a node.
abbrev pub first_word : Raw → ℕ
first_word (word at head name) = at
first_word (number at v) = at
first_word (constant at width v) = at
first_word (decimal at head name width) = at
first_word (cut at head i j) = at
first_word (pattern at c s held) = at

-- "nodes (literals, names, applications; no head is one)": a numeral is none of these; "Carry `(_ bv15 8)` too, as one node" (E3).
abbrev pub is_node : Raw → Bool
is_node (word at head name) = true
is_node (number at v) = false
is_node (constant at width v) = true
is_node (decimal at head name width) = true
is_node (cut at head i j) = true
is_node (pattern at c s held) = true

-- The node of `(_ extract i j)`, by its first word and the items of the list.
abbrev pub cut_by : (at : ℕ) → Items → Raw
cut_by at items = cut at (word_of (item 2 items)) (numeral_of (item 2 items)) (numeral_of (item 3 items))

-- The node of a list begun by `_`: of `(_ bvN n)` or `(_ extract i j)`.
abbrev pub indexed_node : (at : ℕ) → Items → Raw
indexed_node at items =
    cond (is_constant_word (item 1 items)) (decimal at (word_of (item 1 items)) (name_of (item 1 items)) (numeral_of (item 2 items))) (cut_by at items)

-- The node that a list is, by its first word, its head and what the head holds; the shape admits no other heads than a symbol and `(_ extract i j)`.
abbrev pub headed_by : (at : ℕ) → Lexeme → (held ops : Items) → Raw
headed_by at (symbol head name) held ops = cond (is "_" (symbol head name)) (indexed_node at ops) (word at head name)
headed_by at (list head close) held ops = cut_by at held
headed_by at (numeral head v) held ops = number at v
headed_by at (keyword head name) held ops = number at 0
headed_by at (literal head width v written) held ops = number at 0

-- The node that an item is.
abbrev pub raw_of : Lexeme → Items → Raw
raw_of (symbol at name) ops = word at at name
raw_of (numeral at v) ops = number at v
raw_of (keyword at name) ops = number at 0
raw_of (literal at width v bytes) ops = constant at width v
raw_of (list at close) ops = headed_by at (item 0 ops) (inside 0 ops) ops

-- The terms that items are, behind a head or not.
unfoldable pub raw_terms : (headed : Bool) → Items → Forest Raw
raw_terms headed none = none
raw_terms headed (tree l ops more) =
    let operands = cond (is "_" (item 0 ops)) none (raw_terms true ops) in
    let later = raw_terms false more in
    cond headed later (tree (raw_of l ops) operands later)

-- The term that an item is.
abbrev pub raw_term : Lexeme → Items → Forest Raw
raw_term l ops = raw_terms false (tree l ops none)

-- The term of a rule that is one, with attributes or without: document 000 has `(! t A+)` "equivalent to t itself".
abbrev pub raw_term_rule : Lexeme → Items → Forest Raw
raw_term_rule l ops = cond (is_annotated l ops) (raw_term (item 1 ops) (inside 1 ops)) (raw_term l ops)

-- The rule that an item is.
abbrev pub raw_rule : Lexeme → Items → Forest Raw
raw_rule l ops = cond (is_pattern l ops) (tree (pattern (word_of l) (is "Constant" (item 0 ops)) (item 1 ops) (inside 1 ops)) none none) (raw_term_rule l ops)

-- The first word of node n, from 0, numerals not counted; nowhere, where there are not so many.
unfoldable pub node_word : (nowhere n : ℕ) → List (Node Raw) → ℕ
node_word nowhere n [] = nowhere
node_word nowhere zero (x ∷ more) = cond (is_node x.label) (first_word x.label) (node_word nowhere zero more)
node_word nowhere (suc n) (x ∷ more) = node_word nowhere (cond (is_node x.label) n (suc n)) more

-- The word of a constant that is past a limit: "after `bv` stands a numeral of at most 20 digits (more: answer 4) .. and n keeps a sort's range (.. above 64
-- answer 4)" (E3).
abbrev pub constant_past : (nowhere : ℕ) → Raw → ℕ
constant_past nowhere (decimal at head name width) = cond (is_long name) head (cond (ltb max_width width) (head + 1) nowhere)
constant_past nowhere (word at head name) = nowhere
constant_past nowhere (number at v) = nowhere
constant_past nowhere (constant at width v) = nowhere
constant_past nowhere (cut at head i j) = nowhere
constant_past nowhere (pattern at c s held) = nowhere

-- The least of them.
unfoldable pub constants_past : (nowhere : ℕ) → List (Node Raw) → ℕ
constants_past nowhere [] = nowhere
constants_past nowhere (x ∷ more) = min (constant_past nowhere x.label) (constants_past nowhere more)

-- The least word of a term that is past a limit: that of the node past the first `most`, or that of a constant.
abbrev pub word_past : (nowhere most : ℕ) → List (Node Raw) → ℕ
word_past nowhere most nodes = min (node_word nowhere most nodes) (constants_past nowhere nodes)

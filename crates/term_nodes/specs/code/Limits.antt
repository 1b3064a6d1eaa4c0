-- What the limit on the nodes of a term asks and gives.
use Rattle.std.specs.Prelude.{ℕ, ◌+◌, cond, eqb, ltb, List, ◌++◌, ◌≡◌}
use Rattle.operators.specs.Sorts.{max_width}
use Rattle.lexemes.specs.code.Codes.{long_decimal_code}
use Rattle.forest.specs.Forest.{Forest, join, nodes_of}
use Rattle.forest.specs.code.Cursors.{size}
use Rattle.lexemes.specs.code.Standing.{Source}
use Rattle.term_nodes.specs.Terms.{Raw, constants_past, node_word, word_past}
use Rattle.term_nodes.specs.code.Table.{is_constant_head, uncounted_table}
use Rattle.term_nodes.specs.code.Says.{AllSay}

-- The rows from `first` on to `end` hold the nodes of the terms F, of which the words say what they are.
pub record TermNodes (lexemes raw : List ℕ) (first end : ℕ) : Type 0 where
  pub source : Source
  pub same : source.lexemes ≡ lexemes
  pub before : Forest Raw
  pub F : Forest Raw
  pub rest : List ℕ
  pub is : raw ≡ uncounted_table (join before F) ++ rest
  pub begins : first ≡ size before
  pub ends : end ≡ size (join before F)
  pub say : AllSay source F

-- The node past the limit on nodes.
abbrev pub NodePast : {lexemes raw : List ℕ} {first end : ℕ} → TermNodes lexemes raw first end → (most nowhere r : ℕ) → Type 0
NodePast p most nowhere r = r ≡ node_word nowhere most (nodes_of p.F)

-- The least word of a constant that is past a limit.
abbrev pub ConstantsPast : {lexemes raw : List ℕ} {first end : ℕ} → TermNodes lexemes raw first end → (nowhere r : ℕ) → Type 0
ConstantsPast p nowhere r = r ≡ constants_past nowhere (nodes_of p.F)

-- The least word past a limit.
abbrev pub WordPast : {lexemes raw : List ℕ} {first end : ℕ} → TermNodes lexemes raw first end → (most nowhere r : ℕ) → Type 0
WordPast p most nowhere r = r ≡ word_past nowhere most (nodes_of p.F)

-- The word past a limit of the node that begins at a word, by the word that says what it is, the code of that and the value behind it: a constant's word stands
-- two words behind its bracket.
unfoldable pub past_by : (nowhere at head code width : ℕ) → ℕ
past_by nowhere at head code width =
    cond (is_constant_head at head code) (cond (eqb code long_decimal_code) head (cond (ltb max_width width) (head + 1) nowhere)) nowhere

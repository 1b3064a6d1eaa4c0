-- What the words of a text say of the nodes that are gathered from them.
use Rattle.std.specs.Prelude.{ℕ, ◌+◌, ◌<◌, ◌≤◌, Bool, cond, true, List, ◌≡◌}
use Rattle.forest.specs.Forest.{Forest, none, tree}
use Rattle.forest.specs.Lists.{spelling}
use Rattle.word_kinds.specs.Decimals.{is_decimal}
use Rattle.words.specs.Trees.{Lexeme}
use Rattle.lexemes.specs.Lists.{Items}
use Rattle.lexemes.specs.code.Standing.{Source, Stands, spelt}
use Rattle.lexemes.specs.code.Table.{code_at, literal_code, numeral_code, symbol_code, value_at, width_at}
use Rattle.shapes.specs.Shapes.{sort_shape}
use Rattle.term_nodes.specs.Terms.{Raw, constant, cut, decimal, number, pattern, word}

-- What the words say of a symbol's node, which begins with the symbol or with a bracket before it.
pub record SaysWord (s : Source) (at head : ℕ) (name : List ℕ) : Type 0 where
  pub near : head ≤ at + 1
  pub coded : code_at s.lexemes head ≡ symbol_code name
  pub spelled : spelt s head ≡ name

-- What the words say of a literal.
pub record SaysConstant (s : Source) (at width v : ℕ) : Type 0 where
  pub coded : code_at s.lexemes at ≡ literal_code
  pub valued : value_at s.lexemes at ≡ v
  pub wide : width_at s.lexemes at ≡ width

-- What the words say of a constant `(_ bvN n)`: before `bvN` stand a bracket and `_`.
pub record SaysDecimal (s : Source) (at head : ℕ) (name : List ℕ) (width : ℕ) : Type 0 where
  pub here : head ≡ at + 2
  pub is-decimal : is_decimal name ≡ true
  pub coded : code_at s.lexemes head ≡ symbol_code name
  pub spelled : spelt s head ≡ name
  pub numeral : code_at s.lexemes (head + 1) ≡ numeral_code
  pub wide : value_at s.lexemes (head + 1) ≡ width

-- What the words say of `(_ extract i j)`.
pub record SaysCut (s : Source) (at head i j : ℕ) : Type 0 where
  pub coded : code_at s.lexemes head ≡ numeral_code
  pub later : at + 2 < head
  pub high : value_at s.lexemes head ≡ i
  pub low : value_at s.lexemes (head + 1) ≡ j

-- What the words say of `(Constant σ)` or `(Variable σ)`.
pub record SaysPattern (s : Source) (at : ℕ) (c : Bool) (sort : Lexeme) (held : Items) : Type 0 where
  pub coded : code_at s.lexemes (at + 1) ≡ symbol_code (cond c (spelling "Constant") (spelling "Variable"))
  pub end : ℕ
  pub stands : Stands s (at + 2) (tree sort held none) end
  pub shaped : sort_shape sort held ≡ true

-- What the words say of a node.
abbrev pub Says : (s : Source) → Raw → Type 0
Says s (word at head name) = SaysWord s at head name
Says s (number at v) = code_at s.lexemes at ≡ numeral_code
Says s (constant at width v) = SaysConstant s at width v
Says s (decimal at head name width) = SaysDecimal s at head name width
Says s (cut at head i j) = SaysCut s at head i j
Says s (pattern at c sort held) = SaysPattern s at c sort held

-- The same of every node.
unfoldable pub AllSay : (s : Source) → Forest Raw → Type 0
AllSay s none = Unit {0}
AllSay s (tree r ops rest) = Says s r × AllSay s ops × AllSay s rest

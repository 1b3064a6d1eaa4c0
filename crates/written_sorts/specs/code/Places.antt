-- What the tests of written sorts ask.
use Rattle.std.specs.Prelude.{ℕ, Bool, true, List, ◌≡◌}
use Rattle.lexemes.specs.Lists.{Items}
use Rattle.lexemes.specs.code.Standing.{Between, ItemAt}
use Rattle.words.specs.Trees.{Lexeme}
use Rattle.shapes.specs.Shapes.{all, sort_shape}

-- An item of a shape stands at word i.
pub record ShapedAt (shape : Lexeme → Items → Bool) (lexemes : List ℕ) (i : ℕ) : Type 0 where
  pub here : ItemAt lexemes i
  pub shaped : shape here.label here.operands ≡ true

-- A sort stands at word i.
abbrev pub SortAt : (lexemes : List ℕ) → (i : ℕ) → Type 0
SortAt = ShapedAt sort_shape

-- Items of a shape stand from word i to before word e.
pub record AllBetween (shape : Lexeme → Items → Bool) (lexemes : List ℕ) (i e : ℕ) : Type 0 where
  pub between : Between lexemes i e
  pub shaped : all shape between.items ≡ true

-- What a symbol is looked up in, and what it stands for.
use Rattle.std.specs.Prelude.{ℕ, false, List, ◌≡◌, ltb}
use Rattle.operators.specs.Operators.{operator_count, operator_of}
use Rattle.lexemes.specs.Reserved.{is_word}
use Rattle.names.specs.Scopes.{View, is_known, symbol_means}
use Rattle.names.specs.declared.Meaning.{Meaning}
use Rattle.names.specs.declared.Seen.{Seen}
use Rattle.names.specs.code.Lookup.{Sees, Stated}

-- Names that are seen.
pub record Seeing (names : List ℕ) (seen : Seen) : Type 0 where
  pub view : View
  pub sees : Sees names seen view

-- A symbol that is neither a literal nor an operator.
pub record Ordinary (name : List ℕ) : Type 0 where
  pub not-true : is_word "true" name ≡ false
  pub not-false : is_word "false" name ≡ false
  pub no-operator : ltb (operator_of name) operator_count ≡ false

-- What a symbol stands for, and whether it is known.
pub record SymbolMeans (view : View) (name : List ℕ) (m : Meaning) : Type 0 where
  pub known_is : m.known ≡ is_known view name
  pub stated : Stated (symbol_means view name) m

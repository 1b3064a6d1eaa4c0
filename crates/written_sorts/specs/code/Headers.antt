-- Where the header of a function stands.
use Rattle.std.specs.Prelude.{ℕ, ◌≤◌, true, List, ◌≡◌}
use Rattle.forest.specs.Forest.{count}
use Rattle.lexemes.specs.Lists.{is_symbol, item}
use Rattle.lexemes.specs.code.Standing.{ListAt}
use Rattle.shapes.specs.Shapes.{header_shape, synth_fun_shape}

-- A command with a function's header stands at word i: its word is a symbol, and at least three items follow.
pub record HeaderAt (lexemes : List ℕ) (i : ℕ) : Type 0 where
  pub here : ListAt lexemes i
  pub named : is_symbol (item 0 here.operands) ≡ true
  pub long : 4 ≤ count here.operands
  pub shaped : header_shape here.operands ≡ true

-- A `synth-fun` stands at word i.
pub record SynthFunAt (lexemes : List ℕ) (i : ℕ) : Type 0 where
  pub here : ListAt lexemes i
  pub named : is_symbol (item 0 here.operands) ≡ true
  pub shaped : synth_fun_shape here.operands ≡ true

-- Terms: forests whose labels are literals, names, operators and calls.
use Rattle.std.specs.Prelude.{ℕ}
use Rattle.forest.specs.Forest.{Forest}

-- The label of a node of a term.
pub data Label : Type 0 where
  -- "A literal is its value and width: case, `#x` or `#b` make no difference." (E3) Its sort says its width
  literal : (sort value : ℕ) → Label
  -- an argument of the function in whose body or rule the term stands, or in a constraint a declared variable: its sort, and which it is, from 0
  name : (sort k : ℕ) → Label
  -- an operator by its number in the operator table; `(_ extract i j)` has its numbers, any other 0 and 0
  operator : (o i j : ℕ) → Label
  -- the application of a `define-fun`, counted from 0 through the script
  defined : (k : ℕ) → Label
  -- the application of a synthesized function, counted from 0 through the script
  function : (k : ℕ) → Label

-- Terms one after the other; a term by itself is a forest of one tree.
abbrev pub Terms : Type 0
Terms = Forest Label

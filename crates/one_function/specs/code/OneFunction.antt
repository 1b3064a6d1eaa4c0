-- One function in the tables of a script and a response that pass.
use Rattle.std.specs.Prelude.{ℕ, ◌*◌, ◌≤◌, ◌<◌, List, ◌++◌, ◌≡◌, drop, length, take}
use Rattle.forest.specs.code.Cursors.{size}
use Rattle.forest.specs.Limits.{most_functions, most_nodes}
use Rattle.terms.specs.Labels.{Terms}
use Rattle.terms.specs.code.Nodes.{AllPlain, node_table, row_width}
use Rattle.evaluation.specs.code.Tables.{TermStands}
use Rattle.derivation.specs.code.Admitted.{Admitted, LeavesFit}
use Rattle.names.specs.Scopes.{Function}
use Rattle.script.specs.code.Tables.{GrammarHeld}
use Rattle.script.specs.code.Places.{body_in, functions_place, places_length}

-- So many rows of a table of nodes, from one row on.
abbrev pub rows_from : (nodes : List ℕ) → (first count : ℕ) → List ℕ
rows_from nodes first count = take (row_width * count) (drop (row_width * first) nodes)

-- The tables hold the grammar of function j, which is one that document 01 admits, and a body of no more nodes than one may have, whose literals are values of
-- their sorts and whose names are the function's arguments.
pub record OneHeld (places nodes forms : List ℕ) (j : ℕ) : Type 0 where
  pub function : Function
  pub body : Terms
  pub long : length places ≡ places_length
  pub rows : ℕ
  pub grammar_held : GrammarHeld (drop functions_place places) forms rows j function
  pub forms_room : row_width * rows ≤ length forms
  pub admitted : Admitted function.grammar
  pub all : Terms
  pub rest : List ℕ
  pub nodes_are : nodes ≡ node_table all ++ rest
  pub plain : AllPlain all
  pub stands : TermStands all (body_in places j) body
  pub few : size body ≤ most_nodes
  pub leaves : LeavesFit function.grammar.arguments body
  pub low : j < most_functions

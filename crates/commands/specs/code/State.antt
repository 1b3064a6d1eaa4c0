-- What the commands `constraint` and `assume` ask and give.
use Rattle.std.specs.Prelude.{ℕ, ◌+◌, ◌*◌, ◌≤◌, Bool, cond, List, ◌≡◌, drop, length}
use Prim.Native.String.{String}
use Rattle.forest.specs.Limits.{first_assumption, most_assumptions, most_constraints}
use Rattle.terms.specs.code.Nodes.{row_width as nodeWidth}
use Rattle.term_nodes.specs.code.Table.{row_width as rawWidth}
use Rattle.script.specs.code.Tables.{After, CommandOf, NamesHold, PlacesHold, Tested}
use Rattle.script.specs.code.Places.{functions_place}
use Rattle.script.specs.declared.Command.{Command}
use Rattle.script.specs.declared.Progress.{Progress}
use Rattle.script.specs.declared.Verdict.{Verdict}

-- The word of the command.
abbrev pub stated_word : (assumed : Bool) → String
stated_word assumed = cond assumed "assume" "constraint"

-- How many there may be.
abbrev pub most_stated : (assumed : Bool) → ℕ
most_stated assumed = cond assumed most_assumptions most_constraints

-- The number of the first.
abbrev pub first_stated : (assumed : Bool) → ℕ
first_stated assumed = cond assumed first_assumption 0

-- How many there are before it.
abbrev pub stated_before : (assumed : Bool) → Progress → ℕ
stated_before assumed p = cond assumed p.assumptions p.constraints

-- A `constraint` or an `assume`, the tables, and a row for each word of the text.
pub record Stating (text lexemes names raw places nodes : List ℕ) (p : Progress) (i nowhere : ℕ) (assumed : Bool) : Type 0 where
  pub of : CommandOf (stated_word assumed) text lexemes p i nowhere
  pub names_hold : NamesHold names of.known
  pub places_hold : PlacesHold places nodes p.nodes of.known
  pub raw_room : rawWidth * nowhere ≤ length raw
  pub nodes_room : nodeWidth * nowhere ≤ length nodes
  pub within : p.nodes ≤ i

-- The command is tested, and where it passes, its term is known; the numbers of synthesized functions are what they were.
pub record Stated {text lexemes names raw places nodes : List ℕ} {p : Progress} {i nowhere : ℕ} {assumed : Bool}
    (d : Stating text lexemes names raw places nodes p i nowhere assumed) (rawAfter placesAfter nodesAfter : List ℕ) (v : Verdict) : Type 0 where
  pub verdict_is : Tested d.of v
  pub places_hold : v.number ≡ 0 → PlacesHold placesAfter nodesAfter (p.nodes + v.rows) (After d.of)
  pub within : v.number ≡ 0 → p.nodes + v.rows ≤ d.of.here.close
  pub kept : drop functions_place placesAfter ≡ drop functions_place places
  pub raw_long : length rawAfter ≡ length raw
  pub nodes_long : length nodesAfter ≡ length nodes

-- The same, for whatever stands there.
abbrev pub States : (text lexemes names raw places nodes : List ℕ) → Command → (assumed : Bool) → (rawAfter placesAfter nodesAfter : List ℕ) → Verdict → Type 0
States text lexemes names raw places nodes c assumed rawAfter placesAfter nodesAfter v =
    (d : Stating text lexemes names raw places nodes c.progress c.at c.nowhere assumed) → Stated d rawAfter placesAfter nodesAfter v

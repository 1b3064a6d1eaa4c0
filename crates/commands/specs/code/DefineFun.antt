-- What the functions of the command `define-fun` ask and give.
use Rattle.std.specs.Prelude.{ℕ, ◌+◌, ◌*◌, ◌≤◌, ◌<◌, false, List, ◌++◌, ◌≡◌, drop, length, set}
use Rattle.forest.specs.Limits.{allowed, most_defined}
use Rattle.terms.specs.code.Nodes.{row_width as nodeWidth}
use Rattle.forest.specs.code.Cursors.{size}
use Rattle.lexemes.specs.Lists.{inside, item}
use Rattle.term_nodes.specs.code.Table.{row_width as rawWidth, uncounted_table}
use Rattle.term_nodes.specs.Terms.{raw_term}
use Rattle.names.specs.code.Table.{argument_row}
use Rattle.names.specs.declared.Scope.{Scope}
use Rattle.headers.specs.code.Heads.{HeadAt, HeadNamed}
use Rattle.script.specs.Script.{limit_place}
use Rattle.script.specs.code.Signatures.{SignedIn, Signing}
use Rattle.script.specs.code.Tables.{After, CommandOf, NamesHold, PlacesHold, Tested}
use Rattle.script.specs.code.Places.{bodies_place, functions_place}
use Rattle.script.specs.code.Answers.{name_answer}
use Rattle.script.specs.code.Taken.{DefinitionTaken}
use Rattle.script.specs.declared.Command.{Command}
use Rattle.script.specs.declared.Progress.{Progress}
use Rattle.script.specs.declared.Verdict.{Verdict}

-- A `define-fun`, the tables, and a row for each word of the text.
pub record Defining (text lexemes names raw places nodes : List ℕ) (p : Progress) (i nowhere : ℕ) : Type 0 where
  pub of : CommandOf "define-fun" text lexemes p i nowhere
  pub names_hold : NamesHold names of.known
  pub places_hold : PlacesHold places nodes p.nodes of.known
  pub raw_room : rawWidth * nowhere ≤ length raw
  pub nodes_room : nodeWidth * nowhere ≤ length nodes
  pub within : p.nodes ≤ i

-- The command is tested, and where it passes, its function is known; where a name is taken, the table has what tells by which; the numbers of synthesized
-- functions are what they were.
pub record Defined {text lexemes names raw places nodes : List ℕ} {p : Progress} {i nowhere : ℕ}
    (d : Defining text lexemes names raw places nodes p i nowhere) (namesAfter rawAfter placesAfter nodesAfter : List ℕ) (v : Verdict) : Type 0 where
  pub verdict_is : Tested d.of v
  pub names_hold : v.number ≡ 0 → NamesHold namesAfter (After d.of)
  pub taken : v.number ≡ name_answer → DefinitionTaken namesAfter p d.of.known d.of.here.command
  pub places_hold : v.number ≡ 0 → PlacesHold placesAfter nodesAfter (p.nodes + v.rows) (After d.of)
  pub within : v.number ≡ 0 → p.nodes + v.rows ≤ d.of.here.close
  pub kept : drop functions_place placesAfter ≡ drop functions_place places
  pub raw_long : length rawAfter ≡ length raw
  pub nodes_long : length nodesAfter ≡ length nodes

-- The same, for whatever stands there.
abbrev pub Defines : (text lexemes names raw places nodes : List ℕ) → Command → (namesAfter rawAfter placesAfter nodesAfter : List ℕ) → Verdict → Type 0
Defines text lexemes names raw places nodes c namesAfter rawAfter placesAfter nodesAfter v =
    (d : Defining text lexemes names raw places nodes c.progress c.at c.nowhere) → Defined d namesAfter rawAfter placesAfter nodesAfter v

-- The names in scope before a `define-fun`.
abbrev pub scope_before : Progress → Scope
scope_before p = record { variables = p.variables; defined = p.defined; functions = p.functions; first = argument_row; arguments = 0 }

-- The name and the arguments of a `define-fun` are put into their rows and tested, for whatever stands there.
abbrev pub NamesHead : (text lexemes names : List ℕ) → Command → (namesAfter : List ℕ) → (r : ℕ) → Type 0
NamesHead text lexemes names c namesAfter r =
    (p : HeadAt text lexemes names (scope_before c.progress) false c.at) → HeadNamed p c.nowhere namesAfter r

-- A `define-fun` that is not past a limit, the tables, and the nodes of its body.
pub record Within (text lexemes names raw places nodes : List ℕ) (p : Progress) (rows i nowhere : ℕ) : Type 0 where
  pub of : CommandOf "define-fun" text lexemes p i nowhere
  pub names_hold : NamesHold names of.known
  pub places_hold : PlacesHold places nodes p.nodes of.known
  pub limited : nowhere ≤ limit_place allowed nowhere of.known i of.here.command
  pub rest : List ℕ
  pub raw_is : raw ≡ uncounted_table (raw_term (item 4 of.here.command) (inside 4 of.here.command)) ++ rest
  pub counted : rows ≡ size (raw_term (item 4 of.here.command) (inside 4 of.here.command))
  pub nodes_room : nodeWidth * nowhere ≤ length nodes
  pub fits : p.nodes + rows ≤ of.here.close

-- It is tested, and where it passes, its function is known.
pub record Settled {text lexemes names raw places nodes : List ℕ} {p : Progress} {rows i nowhere : ℕ}
    (w : Within text lexemes names raw places nodes p rows i nowhere) (namesAfter rawAfter placesAfter nodesAfter : List ℕ) (v : Verdict) : Type 0 where
  pub verdict_is : Tested w.of v
  pub names_hold : v.number ≡ 0 → NamesHold namesAfter (After w.of)
  pub taken : v.number ≡ name_answer → DefinitionTaken namesAfter p w.of.known w.of.here.command
  pub places_hold : v.number ≡ 0 → PlacesHold placesAfter nodesAfter (p.nodes + v.rows) (After w.of)
  pub within : v.number ≡ 0 → p.nodes + v.rows ≤ w.of.here.close
  pub kept : drop functions_place placesAfter ≡ drop functions_place places
  pub raw_long : length rawAfter ≡ length raw
  pub nodes_long : length nodesAfter ≡ length nodes

-- The same, for whatever stands there.
abbrev pub Settles : (text lexemes names raw places nodes : List ℕ) → Command → (rows : ℕ) → (namesAfter rawAfter placesAfter nodesAfter : List ℕ) → Verdict
    → Type 0
Settles text lexemes names raw places nodes c rows namesAfter rawAfter placesAfter nodesAfter v =
    (w : Within text lexemes names raw places nodes c.progress rows c.at c.nowhere) → Settled w namesAfter rawAfter placesAfter nodesAfter v

-- A row of the table of signatures for a function whose arguments stand in their rows, and one of the numbers of bodies.
pub record Putting (names places : List ℕ) (n arguments sort : ℕ) : Type 0 where
  pub signing : Signing names places n argument_row arguments sort
  pub few : n < most_defined

-- Both are written.
pub record DefinitionPut (names places : List ℕ) (n arguments sort row : ℕ) (placesAfter : List ℕ) : Type 0 where
  pub signed : List ℕ
  pub is_signed : SignedIn names places n argument_row arguments sort signed
  pub put : placesAfter ≡ set signed (bodies_place + n) row

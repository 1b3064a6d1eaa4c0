-- What the parts of the command `synth-fun` have in common.
use Rattle.std.specs.Prelude.{ℕ, ◌+◌, ◌*◌, ◌≤◌, List, ◌≡◌, drop, length}
use Rattle.forest.specs.Forest.{count}
use Rattle.lexemes.specs.Lists.{Items, inside, item}
use Rattle.written_sorts.specs.Written.{sort_of}
use Rattle.terms.specs.code.Nodes.{row_width as nodeWidth}
use Rattle.term_nodes.specs.code.Table.{row_width as rawWidth}
use Rattle.derivation.specs.code.Tables.{form_table}
use Rattle.names.specs.Scopes.{forms_of}
use Rattle.term_nodes.specs.Rules.{Ruled, rules_in, sides}
use Rattle.script.specs.Script.{Known, view_of}
use Rattle.script.specs.code.Tables.{After, CommandOf, GrammarsHold, NamesHold, PlacesHold, Tested}
use Rattle.script.specs.code.Places.{functions_place}
use Rattle.script.specs.code.Answers.{name_answer}
use Rattle.script.specs.code.Taken.{FunctionTaken}
use Rattle.script.specs.declared.Progress.{Progress}
use Rattle.script.specs.declared.Verdict.{Verdict}
use Rattle.synth_fun.specs.declared.Header.{Header}

-- A `synth-fun` of its shape stands at word i; what is known before it, in tables; and a row for each word of the text.
pub record Synthesizing (text lexemes names raw places forms : List ℕ) (p : Progress) (i nowhere : ℕ) : Type 0 where
  pub of : CommandOf "synth-fun" text lexemes p i nowhere
  pub names_hold : NamesHold names of.known
  pub nodes : List ℕ
  pub places_hold : PlacesHold places nodes p.nodes of.known
  pub grammars_hold : GrammarsHold (drop functions_place places) forms p.forms of.known.functions
  pub raw_room : rawWidth * nowhere ≤ length raw
  pub forms_room : nodeWidth * nowhere ≤ length forms
  pub within : p.forms ≤ i

-- The command is tested, and where it passes, its function and its grammar are known; where a name is taken, the table has what tells by which.
pub record Synthesized {text lexemes names raw places forms : List ℕ} {p : Progress} {i nowhere : ℕ}
    (d : Synthesizing text lexemes names raw places forms p i nowhere) (namesAfter rawAfter placesAfter formsAfter : List ℕ) (v : Verdict) : Type 0 where
  pub verdict_is : Tested d.of v
  pub names_hold : v.number ≡ 0 → NamesHold namesAfter (After d.of)
  pub taken : v.number ≡ name_answer → FunctionTaken namesAfter p d.of.known d.of.here.command
  pub places_hold : v.number ≡ 0 → PlacesHold placesAfter d.nodes p.nodes (After d.of)
  pub grammars_hold : v.number ≡ 0 → GrammarsHold (drop functions_place placesAfter) formsAfter (p.forms + v.rows) (After d.of).functions
  pub within : v.number ≡ 0 → p.forms + v.rows ≤ d.of.here.close
  pub raw_long : length rawAfter ≡ length raw
  pub forms_long : length formsAfter ≡ length forms

-- The rules that the command lists.
abbrev pub ruled_by : Items → List Ruled
ruled_by c = rules_in 0 (inside 5 c)

-- The forms of these rules, in a table.
abbrev pub forms_said : Known → Items → List ℕ
forms_said k c = form_table (forms_of (view_of k c) (sides (ruled_by c)))

-- How many arguments and non-terminals the command declares, and the sort of its result.
pub record HeaderOf (c : Items) (h : Header) : Type 0 where
  pub arguments_are : h.arguments ≡ count (inside 2 c)
  pub listed_are : h.listed ≡ count (inside 4 c)
  pub result_is : h.result ≡ sort_of (item 3 c) (inside 3 c)

-- What the test of the names of a `synth-fun` asks and gives.
use Rattle.std.specs.Prelude.{ℕ, ◌+◌, ◌*◌, ◌≤◌, List, ◌++◌, ◌≡◌, drop, length}
use Rattle.std.proofs.lemmas.List.Edits.{sets}
use Rattle.forest.specs.Forest.{count}
use Rattle.forest.specs.code.Cursors.{size}
use Rattle.lexemes.specs.Lists.{inside}
use Rattle.written_sorts.specs.code.Headers.{SynthFunAt}
use Rattle.terms.specs.code.Nodes.{row_width as nodeWidth}
use Rattle.term_nodes.specs.code.Table.{raw_table, uncounted_table}
use Rattle.names.specs.Scopes.{names_of, named_sorts}
use Rattle.names.specs.code.Table.{names_from, non_terminal_row, sorts_from}
use Rattle.names.specs.New.{named_by}
use Rattle.term_nodes.specs.Rules.{sides}
use Rattle.term_nodes.specs.code.RuleGathering.{start_table}
use Rattle.term_nodes.specs.declared.Gathered.{Gathered}
use Rattle.forest.specs.Limits.{allowed, most_rules}
use Rattle.script.specs.Script.{limit_place, name_place}
use Rattle.script.specs.code.Tables.{After, CommandOf, NamesHold}
use Rattle.script.specs.code.Places.{own_rules}
use Rattle.script.specs.code.Taken.{FunctionTaken}
use Rattle.script.specs.declared.Command.{Command}
use Rattle.script.specs.declared.Progress.{Progress}
use Rattle.script.specs.declared.Verdict.{Verdict}
use Rattle.synth_fun.specs.declared.Header.{Header}
use Rattle.synth_fun.specs.code.Synthesizing.{Synthesizing, Synthesized, ruled_by, forms_said, HeaderOf}

-- The same, of the command at word i.
abbrev pub ReadsHeader : (lexemes : List ℕ) → (i : ℕ) → Header → Type 0
ReadsHeader lexemes i h = (p : SynthFunAt lexemes i) → HeaderOf p.here.operands h

-- The command is within its limits, its rules are gathered, not counted yet, and there is room for their forms.
pub record Unnamed (text lexemes names raw forms : List ℕ) (p : Progress) (arguments rows i nowhere : ℕ) : Type 0 where
  pub of : CommandOf "synth-fun" text lexemes p i nowhere
  pub names_hold : NamesHold names of.known
  pub limited : nowhere ≤ limit_place allowed nowhere of.known i of.here.command
  pub arguments_are : arguments ≡ count (inside 2 of.here.command)
  pub rest : List ℕ
  pub raw_is : raw ≡ uncounted_table (sides (ruled_by of.here.command)) ++ rest
  pub rows_are : rows ≡ size (sides (ruled_by of.here.command))
  pub room : nodeWidth * (p.forms + rows) ≤ length forms

-- Its names stand in their rows, behind those that were known, the nodes are counted, the forms are written, and the least word at fault in a name is found.
pub record NamesFound {text lexemes names raw forms : List ℕ} {p : Progress} {arguments rows i nowhere : ℕ}
    (u : Unnamed text lexemes names raw forms p arguments rows i nowhere) (namesAfter rawAfter formsAfter : List ℕ) (r : ℕ) : Type 0 where
  pub place_is : r ≡ name_place nowhere u.of.known u.of.here.command
  pub names_hold : NamesHold namesAfter (After u.of)
  pub taken : FunctionTaken namesAfter p u.of.known u.of.here.command
  pub listed_are : names_from namesAfter non_terminal_row (count (inside 4 u.of.here.command)) ≡ names_of (named_by (inside 4 u.of.here.command))
  pub listed_sorts : sorts_from namesAfter non_terminal_row (count (inside 4 u.of.here.command)) ≡ named_sorts (named_by (inside 4 u.of.here.command))
  pub raw_is : rawAfter ≡ raw_table (sides (ruled_by u.of.here.command)) ++ u.rest
  pub forms_are : formsAfter ≡ sets forms (nodeWidth * p.forms) (forms_said u.of.known u.of.here.command)

-- The same, for whatever the tables hold.
abbrev pub FindsNames : (text lexemes names raw forms : List ℕ) → Command → (arguments rows : ℕ) → (namesAfter rawAfter formsAfter : List ℕ) → (r : ℕ) → Type 0
FindsNames text lexemes names raw forms c arguments rows namesAfter rawAfter formsAfter r =
    (u : Unnamed text lexemes names raw forms c.progress arguments rows c.at c.nowhere) → NamesFound u namesAfter rawAfter formsAfter r

-- The command is within its limits, and its rules are gathered in their place.
pub record Gathering (text lexemes names raw places forms : List ℕ) (p : Progress) (g : Gathered) (i nowhere : ℕ) : Type 0 where
  pub lent : List ℕ
  pub given : Synthesizing text lexemes names lent places forms p i nowhere
  pub limited : nowhere ≤ limit_place allowed nowhere given.of.known i given.of.here.command
  pub raw_long : length raw ≡ length lent
  pub rest : List ℕ
  pub raw_is : raw ≡ uncounted_table (sides (ruled_by given.of.here.command)) ++ rest
  pub rows_are : g.row ≡ size (sides (ruled_by given.of.here.command))
  pub within : i + g.row ≤ given.of.here.close
  pub more : List ℕ
  pub rules_are : drop (own_rules p.functions) places ≡ start_table 0 (ruled_by given.of.here.command) ++ more
  pub counted : g.rule ≡ length (ruled_by given.of.here.command)
  pub few : g.rule ≤ most_rules

-- The command is then tested.
abbrev pub TestsNames : (text lexemes names raw places forms : List ℕ) → Command → Gathered → (namesAfter rawAfter placesAfter formsAfter : List ℕ) → Verdict
    → Type 0
TestsNames text lexemes names raw places forms c g namesAfter rawAfter placesAfter formsAfter v =
    (s : Gathering text lexemes names raw places forms c.progress g c.at c.nowhere)
    → Synthesized s.given namesAfter rawAfter placesAfter formsAfter v

-- What the tests of the sorts of a `synth-fun` and of its grammar ask and give.
use Rattle.std.specs.Prelude.{ℕ, ◌+◌, ◌-◌, ◌*◌, ◌≤◌, ◌<◌, min, List, ◌++◌, ◌≡◌, drop, length, take}
use Rattle.std.proofs.lemmas.List.Edits.{sets}
use Rattle.forest.specs.Forest.{count}
use Rattle.forest.specs.code.Cursors.{size}
use Rattle.lexemes.specs.Lists.{inside}
use Rattle.terms.specs.code.Nodes.{row_width as nodeWidth}
use Rattle.term_nodes.specs.code.Table.{raw_table}
use Rattle.names.specs.Scopes.{names_of, named_sorts}
use Rattle.names.specs.code.Table.{names_from, non_terminal_row, sorts_from}
use Rattle.names.specs.New.{named_by}
use Rattle.term_nodes.specs.Rules.{sides}
use Rattle.term_nodes.specs.code.RuleGathering.{start_table}
use Rattle.term_nodes.specs.declared.Gathered.{Gathered}
use Rattle.derivation.specs.Productive.{productive}
use Rattle.derivation.specs.code.Productive.{AsksDead}
use Rattle.term_faults.specs.Faults.{rule_misfit}
use Rattle.term_faults.specs.code.Grammars.{RulesSought}
use Rattle.grammars.specs.Grammars.{list_misfit}
use Rattle.grammars.specs.Listing.{dead_misfit}
use Rattle.grammars.specs.code.Read.{Declared, DeclaredAt}
use Rattle.forest.specs.Limits.{allowed, most_arguments, most_functions, most_rules}
use Rattle.script.specs.Script.{limit_place, name_place}
use Rattle.script.specs.code.Tables.{After, NamesHold}
use Rattle.script.specs.code.Places.{arguments_in, own_rules, places_length, rule_count_in, rules_of, sorts_of}
use Rattle.script.specs.declared.Command.{Command}
use Rattle.script.specs.declared.Progress.{Progress}
use Rattle.script.specs.declared.Verdict.{Verdict}
use Rattle.synth_fun.specs.declared.Header.{Header}
use Rattle.synth_fun.specs.declared.Parts.{Parts}
use Rattle.synth_fun.specs.code.Synthesizing.{Synthesizing, Synthesized, ruled_by, forms_said, HeaderOf}

-- Its names are in order, and the forms of its rules are written.
pub record Unsorted (text lexemes names raw places forms : List ℕ) (p : Progress) (g : Gathered) (h : Header) (i nowhere : ℕ) : Type 0 where
  pub lent_names : List ℕ
  pub lent_raw : List ℕ
  pub lent_forms : List ℕ
  pub given : Synthesizing text lexemes lent_names lent_raw places lent_forms p i nowhere
  pub limited : nowhere ≤ limit_place allowed nowhere given.of.known i given.of.here.command
  pub named : nowhere ≤ name_place nowhere given.of.known given.of.here.command
  pub raw_long : length raw ≡ length lent_raw
  pub header : HeaderOf given.of.here.command h
  pub names_hold : NamesHold names (After given.of)
  pub listed_are : names_from names non_terminal_row (count (inside 4 given.of.here.command)) ≡ names_of (named_by (inside 4 given.of.here.command))
  pub listed_sorts : sorts_from names non_terminal_row (count (inside 4 given.of.here.command)) ≡ named_sorts (named_by (inside 4 given.of.here.command))
  pub rest : List ℕ
  pub raw_is : raw ≡ raw_table (sides (ruled_by given.of.here.command)) ++ rest
  pub forms_are : forms ≡ sets lent_forms (nodeWidth * p.forms) (forms_said given.of.known given.of.here.command)
  pub rows_are : g.row ≡ size (sides (ruled_by given.of.here.command))
  pub within : i + g.row ≤ given.of.here.close
  pub more : List ℕ
  pub rules_are : drop (own_rules p.functions) places ≡ start_table 0 (ruled_by given.of.here.command) ++ more
  pub counted : g.rule ≡ length (ruled_by given.of.here.command)
  pub few : g.rule ≤ most_rules

-- A table from a place on.
abbrev pub from_place : (first : ℕ) → (table : List ℕ) → List ℕ
from_place first table = take (length table - first) (drop first table)

-- What the command lists stands in the tables, with the sorts of the nodes of its rules.
pub record Comparing (text lexemes names raw places column : List ℕ) (p : Progress) (g : Gathered) (h : Header) (i : ℕ) : Type 0 where
  pub lists : Declared text lexemes names i h.listed
  pub one_more : p.functions < most_functions
  pub room : own_rules p.functions ≤ length places
  pub rules : RulesSought lexemes raw (from_place (own_rules p.functions) places) places column g.rule h.listed

-- The least word at fault in it is found.
abbrev pub FindsMisfit : (text lexemes names raw places column : List ℕ) → Command → Parts → (r : ℕ) → Type 0
FindsMisfit text lexemes names raw places column c parts r =
    (q : Comparing text lexemes names raw places column c.progress parts.gathered parts.header c.at)
    → r ≡ min (list_misfit c.nowhere q.lists.view q.lists.command) (rule_misfit c.nowhere q.rules.view q.rules.ruled)

-- The function stands in the tables.
pub record Deriving (lexemes places forms : List ℕ) (p : Progress) (g : Gathered) (h : Header) (i : ℕ) : Type 0 where
  pub declared : DeclaredAt lexemes i h.listed
  pub asks : AsksDead (rules_of places p.functions) (take (nodeWidth * g.row) (drop (nodeWidth * p.forms) forms)) (sorts_of places p.functions) h.listed
  pub one_more : p.functions < most_functions
  pub long : length places ≡ places_length
  pub few_rules : rule_count_in places p.functions ≤ most_rules
  pub few_arguments : arguments_in places p.functions ≤ most_arguments
  pub room : nodeWidth * (p.forms + g.row) ≤ length forms

-- The declared name of the first non-terminal that derives no term is found.
abbrev pub FindsDead : (lexemes places forms : List ℕ) → Command → Parts → (r : ℕ) → Type 0
FindsDead lexemes places forms c parts r =
    (q : Deriving lexemes places forms c.progress parts.gathered parts.header c.at)
    → r ≡ dead_misfit c.nowhere (productive q.asks.tabled.G parts.header.listed) 0 (inside 4 q.declared.command.here.operands)

-- The command is then tested, and no table but that of places is changed.
abbrev pub TestsSorts : (text lexemes names raw places forms : List ℕ) → Command → Parts → (placesAfter : List ℕ) → Verdict → Type 0
TestsSorts text lexemes names raw places forms c parts placesAfter v =
    (s : Unsorted text lexemes names raw places forms c.progress parts.gathered parts.header c.at c.nowhere)
    → Synthesized s.given names raw placesAfter forms v

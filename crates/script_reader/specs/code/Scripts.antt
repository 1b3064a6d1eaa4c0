-- What the reading of a script asks and gives.
use Rattle.std.specs.Prelude.{ℕ, ◌≤◌, Bool, false, cond, List, ◌≡◌, length}
use Rattle.lexemes.specs.Lists.{Items}
use Rattle.lexemes.specs.code.Standing.{Stands}
use Rattle.names.specs.code.Lookup.{Names, source_of}
use Rattle.forest.specs.Limits.{allowed, script_words}
use Rattle.term_faults.specs.code.Bodies.{Lawful}
use Rattle.script.specs.Script.{read_all, nothing_known}
use Rattle.script.specs.code.Places.{places_length}
use Rattle.script.specs.declared.Progress.{Progress}
use Rattle.script.specs.code.Answers.{shape_answer}
use Rattle.script_reader.specs.declared.Step.{Step}
use Rattle.script_reader.specs.code.Commands.{Reads, Roomy}

-- The items of a lawful text of no more words than a script may have stand in its tables, and the tables for what is known have their sizes.
pub record ScriptAt (text lexemes names raw places nodes forms : List ℕ) (nowhere : ℕ) : Type 0 where
  pub items : Items
  pub stands : Stands (source_of text lexemes) 0 items nowhere
  pub lawful : Lawful (source_of text lexemes) nowhere
  pub few : nowhere ≤ script_words
  pub table : Names names
  pub long : length places ≡ places_length
  pub roomy : Roomy raw nodes forms nowhere

-- The script is read: its first faulty command, or the tables hold what it says, in no more rows of terms than words.
pub record ScriptRead {text lexemes names raw places nodes forms : List ℕ} {nowhere : ℕ} (p : ScriptAt text lexemes names raw places nodes forms nowhere)
    (namesAfter placesAfter nodesAfter formsAfter : List ℕ) (s : Step) : Type 0 where
  pub reads : Reads (read_all allowed nowhere nothing_known p.items) namesAfter placesAfter nodesAfter formsAfter s
  pub nodes_within : s.number ≡ 0 → s.progress.nodes ≤ nowhere

-- The same, for whatever stands there.
abbrev pub ReadsScript : (text lexemes names raw places nodes forms : List ℕ) → (nowhere : ℕ) → (namesAfter placesAfter nodesAfter formsAfter : List ℕ) → Step
    → Type 0
ReadsScript text lexemes names raw places nodes forms nowhere namesAfter placesAfter nodesAfter formsAfter s =
    (p : ScriptAt text lexemes names raw places nodes forms nowhere) → ScriptRead p namesAfter placesAfter nodesAfter formsAfter s

-- What is said before the first command, in numbers.
abbrev pub nothing_said : Progress
nothing_said =
    record { logic = false; weights = false; ended = false; variables = 0; defined = 0; functions = 0; constraints = 0; assumptions = 0; nodes = 0; forms = 0 }

-- The step at the end of a script, by whether there was a `check-synth`.
abbrev pub last_step : (nowhere : ℕ) → (ended : Bool) → Progress → Step
last_step nowhere ended p = record { number = cond ended 0 shape_answer; place = nowhere; second = 0; progress = p }

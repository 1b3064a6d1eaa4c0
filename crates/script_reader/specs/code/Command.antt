-- What the reading of one command asks and gives.
use Rattle.std.specs.Prelude.{ℕ, ◌+◌, ◌≤◌, true, List, ◌≡◌}
use Rattle.shapes.specs.Shapes.{command_shape}
use Rattle.lexemes.specs.code.Table.{code_at}
use Rattle.forest.specs.Limits.{allowed}
use Rattle.script.specs.Script.{Known, judged, known_after, tested}
use Rattle.script.specs.code.Answers.{name_answer}
use Rattle.script.specs.code.Tables.{CommandAt, Says, TablesHold}
use Rattle.script.specs.declared.Command.{Command}
use Rattle.script.specs.declared.Progress.{Progress}
use Rattle.script.specs.declared.Verdict.{Verdict}
use Rattle.script_reader.specs.declared.Step.{Step}
use Rattle.script_reader.specs.code.Commands.{Reads, Roomy, said_by}
use Rattle.script_reader.specs.code.Taken.{TakenBy}

-- A command stands at word i; the tables hold what is known before it, in no more rows than words before it.
pub record Commanded (text lexemes names raw places nodes forms : List ℕ) (p : Progress) (i nowhere : ℕ) : Type 0 where
  pub here : CommandAt text lexemes i nowhere
  pub known : Known
  pub tables : TablesHold names places nodes forms p known
  pub roomy : Roomy raw nodes forms nowhere
  pub nodes_within : p.nodes ≤ i
  pub forms_within : p.forms ≤ i

-- The command is judged, and where it passes, the tables hold what is known after it.
pub record CommandRead {text lexemes names raw places nodes forms : List ℕ} {p : Progress} {i nowhere : ℕ}
    (c : Commanded text lexemes names raw places nodes forms p i nowhere) (namesAfter placesAfter nodesAfter formsAfter : List ℕ) (s : Step)
    : Type 0 where
  pub reads : let after = known_after c.known c.here.command in
      Reads (judged allowed nowhere c.known i c.here.command after) namesAfter placesAfter nodesAfter formsAfter s
  pub nodes_within : s.number ≡ 0 → s.progress.nodes ≤ c.here.close
  pub forms_within : s.number ≡ 0 → s.progress.forms ≤ c.here.close

-- The same, for whatever stands there.
abbrev pub ReadsCommand : (text lexemes names raw places nodes forms : List ℕ) → Command → (namesAfter placesAfter nodesAfter formsAfter : List ℕ) → Step
    → Type 0
ReadsCommand text lexemes names raw places nodes forms x namesAfter placesAfter nodesAfter formsAfter s =
    (c : Commanded text lexemes names raw places nodes forms x.progress x.at x.nowhere) → CommandRead c namesAfter placesAfter nodesAfter formsAfter s

-- A command of its shape stands at word i, and the tables hold what is known before it.
pub record Shaped (text lexemes names raw places nodes forms : List ℕ) (p : Progress) (i nowhere : ℕ) : Type 0 where
  pub commanded : Commanded text lexemes names raw places nodes forms p i nowhere
  pub shaped : command_shape commanded.here.command ≡ true

-- The numbers after the command at word i, which takes so many rows.
abbrev pub said_at : (lexemes : List ℕ) → Progress → (i rows : ℕ) → Progress
said_at lexemes p i rows = said_by p (code_at lexemes (i + 1)) rows

-- The command is tested, and where it passes, the tables hold what is known after it; where it is refused for a name, the table of names has what tells by which
-- name a new one is taken.
pub record CommandTested {text lexemes names raw places nodes forms : List ℕ} {p : Progress} {i nowhere : ℕ}
    (c : Shaped text lexemes names raw places nodes forms p i nowhere) (namesAfter placesAfter nodesAfter formsAfter : List ℕ) (v : Verdict)
    : Type 0 where
  pub verdict_is : let known = c.commanded.known in let command = c.commanded.here.command in
      Says v (tested allowed nowhere known i command (known_after known command))
  pub tables : let after = known_after c.commanded.known c.commanded.here.command in
      v.number ≡ 0 → TablesHold namesAfter placesAfter nodesAfter formsAfter (said_at lexemes p i v.rows) after
  pub taken : v.number ≡ name_answer → TakenBy (code_at lexemes (i + 1)) namesAfter p c.commanded.known c.commanded.here.command
  pub nodes_within : v.number ≡ 0 → (said_at lexemes p i v.rows).nodes ≤ c.commanded.here.close
  pub forms_within : v.number ≡ 0 → (said_at lexemes p i v.rows).forms ≤ c.commanded.here.close

-- The same, for whatever stands there.
abbrev pub TestsCommand : (text lexemes names raw places nodes forms : List ℕ) → Command → (namesAfter placesAfter nodesAfter formsAfter : List ℕ) → Verdict
    → Type 0
TestsCommand text lexemes names raw places nodes forms x namesAfter placesAfter nodesAfter formsAfter v =
    (c : Shaped text lexemes names raw places nodes forms x.progress x.at x.nowhere) → CommandTested c namesAfter placesAfter nodesAfter formsAfter v

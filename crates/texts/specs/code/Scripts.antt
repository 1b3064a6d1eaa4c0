-- What the reading of a script from its bytes asks and gives.
use Rattle.std.specs.Prelude.{ℕ, ◌≤◌, List, ◌≡◌, length}
use Rattle.forest.specs.Limits.{script_words}
use Rattle.terms.specs.code.Nodes.{row_width as nodeWidth}
use Rattle.names.specs.code.Lookup.{Names}
use Rattle.script.specs.code.Tables.{TablesHold}
use Rattle.script.specs.code.Places.{places_length}
use Rattle.script_reader.specs.declared.Step.{Step}
use Rattle.script.specs.Outcome.{ScriptOutcome, offset_of, said, script_outcome, second_of}
use Rattle.words.specs.Limits.{script_limits}
use Rattle.texts.specs.code.Texts.{RowEach}

-- Tables of names and of places, and in those of nodes and of forms a row for each word of a script.
pub record Lent (text names places nodes forms : List ℕ) : Type 0 where
  pub table : Names names
  pub long : length places ≡ places_length
  pub nodes_room : RowEach script_limits text nodeWidth nodes
  pub forms_room : RowEach script_limits text nodeWidth forms

-- A step with the offsets of its words in their place.
abbrev pub in_offsets : (text : List ℕ) → Step → Step
in_offsets text s =
    record { number = s.number; place = offset_of text s.place; second = second_of text s.second; progress = s.progress }

-- What was read of a script: a refusal with its number, its offset and its second number; or what it says, which the tables hold, in no more rows than a script
-- has words, and its text bytes.
abbrev pub ScriptTold : ScriptOutcome → (text names places nodes forms : List ℕ) → Step → Type 0
ScriptTold (ScriptOutcome.faulty number offset second) text names places nodes forms s =
    (s.number ≡ number) × (s.place ≡ offset) × (s.second ≡ second)
ScriptTold (said k) text names places nodes forms s =
    (s.number ≡ 0) × TablesHold names places nodes forms s.progress k × (s.progress.nodes ≤ script_words) × (s.progress.nodes ≤ length text)

-- The same, by the script's text.
pub record ScriptRead (text names places nodes forms : List ℕ) (s : Step) : Type 0 where
  pub told : ScriptTold (script_outcome text) text names places nodes forms s

-- What reading a script and a response asks and gives.
use Rattle.std.specs.Prelude.{ℕ, ◌+◌, ◌*◌, ◌≤◌, List, ◌≡◌, length}
use Rattle.forest.specs.Limits.{response_words, script_words}
use Rattle.terms.specs.code.Nodes.{row_width as nodeWidth}
use Rattle.names.specs.code.Lookup.{Names}
use Rattle.words.specs.Limits.{script_limits}
use Rattle.words.specs.declared.Limits.{Limits}
use Rattle.texts.specs.code.Texts.{RowEach}
use Rattle.script.specs.Script.{Known}
use Rattle.script.specs.code.Places.{places_length}
use Rattle.script.specs.declared.Progress.{Progress}
use Rattle.script.specs.Response.{Body}
use Rattle.outcome.specs.Accepted.{TextsPass}
use Rattle.outcome.specs.Checked.{TextsRefused}
use Rattle.outcome.specs.code.Held.{Held}
use Rattle.both_texts.specs.declared.Told.{Told}

-- A row for each word of a script, and of a response within limits, among the nodes, and one for each word of the script among the forms.
pub record Rooms (limits : Limits) (script response nodes forms : List ℕ) : Type 0 where
  pub nodes_room : (n m : ℕ) → n ≤ script_words → n ≤ length script → m ≤ limits.words → m ≤ length response → nodeWidth * (n + m) ≤ length nodes
  pub forms_room : RowEach script_limits script nodeWidth forms

-- And tables of names and of places; the limits allow no more words than document 01.
pub record Lent (limits : Limits) (script response names places nodes forms : List ℕ) : Type 0 where
  pub few_words : limits.words ≤ response_words
  pub table : Names names
  pub long : length places ≡ places_length
  pub rooms : Rooms limits script response nodes forms

-- Both texts pass: the tables hold what the script says and the bodies that the response gives.
pub record BothHeld (limits : Limits) (script response names places nodes forms : List ℕ) (p : Progress) : Type 0 where
  pub known : Known
  pub bodies : List Body
  pub passing : TextsPass limits script response known bodies
  pub held : Held response names places nodes forms p known bodies

-- Where the number is 0 the tables hold both texts; where it is another the answer refuses one of them.
pub record TextsRead (limits : Limits) (script response names places nodes forms : List ℕ) (r : Told) : Type 0 where
  pub both! : r.outcome.number ≡ 0 → BothHeld limits script response names places nodes forms r.progress
  pub one! : (r.outcome.number ≡ 0 → ⊥) → TextsRefused limits script response r.outcome

-- What the reading of a response from its bytes asks and gives.
use Rattle.std.specs.Prelude.{ℕ, ◌+◌, ◌*◌, ◌≤◌, List, ◌≡◌, drop, length}
use Rattle.forest.specs.Limits.{response_words}
use Rattle.words.specs.declared.Limits.{Limits}
use Rattle.terms.specs.code.Nodes.{row_width as nodeWidth}
use Rattle.script.specs.Script.{Known}
use Rattle.script.specs.code.Tables.{GrammarsHold, TablesHold}
use Rattle.script.specs.code.Places.{functions_place}
use Rattle.script.specs.declared.Progress.{Progress}
use Rattle.script.specs.declared.Verdict.{Verdict}
use Rattle.response.specs.code.Answers.{BodiesHeld}
use Rattle.script.specs.Outcome.{ResponseOutcome, given, response_within}

-- The tables hold what a script says, and there is a row for each word that a response can have within limits, among the nodes behind those of the script; the
-- limits allow no more words than document 01.
pub record Ready (limits : Limits) (text names places nodes : List ℕ) (p : Progress) : Type 0 where
  pub known : Known
  pub forms : List ℕ
  pub tables : TablesHold names places nodes forms p known
  pub few_words : limits.words ≤ response_words
  pub nodes_room : (n : ℕ) → n ≤ limits.words → n ≤ length text → nodeWidth * (p.nodes + n) ≤ length nodes

-- What was read of a response: a refusal with its number and offset; or the bodies, which the tables hold with the grammars that they held before.
abbrev pub ResponseTold : ResponseOutcome → Known → (text places nodes forms : List ℕ) → Progress → Verdict → Type 0
ResponseTold (ResponseOutcome.faulty number offset) k text places nodes forms p v = (v.number ≡ number) × (v.place ≡ offset)
ResponseTold (given bs) k text places nodes forms p v =
    (v.number ≡ 0) × BodiesHeld text places nodes (p.nodes + v.rows) k bs × GrammarsHold (drop functions_place places) forms p.forms k.functions

-- The same, by the response's text within the limits.
pub record ResponseRead {limits : Limits} {text names places nodes : List ℕ} {p : Progress} (q : Ready limits text names places nodes p)
    (placesAfter nodesAfter : List ℕ) (v : Verdict) : Type 0 where
  pub told : ResponseTold (response_within limits q.known text) q.known text placesAfter nodesAfter q.forms p v

-- What the reading of a response's text gives.
abbrev pub ReadsResponse : Limits → (text names places nodes : List ℕ) → Progress → (placesAfter nodesAfter : List ℕ) → Verdict → Type 0
ReadsResponse limits text names places nodes p placesAfter nodesAfter v =
    (q : Ready limits text names places nodes p) → ResponseRead q placesAfter nodesAfter v

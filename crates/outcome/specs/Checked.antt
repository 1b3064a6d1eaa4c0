-- The checker: which answer, what stands in the lent area afterwards, and the totals.
use Rattle.std.specs.Prelude.{ℕ, cond, List, ◌≡◌, eqb, ltb, length, Ok, Err}
use Rattle.std.proofs.Math.Option.{Option, none as nothing, some}
use Rattle.words.specs.Limits.{response_limits, script_limits}
use Rattle.words.specs.declared.Limits.{Limits}
use Rattle.forest.specs.Limits.{area_size, most_numbers}
use Rattle.evaluation.specs.Points.{points_of}
use Rattle.names.specs.Scopes.{named_sorts}
use Rattle.script.specs.Script.{Known}
use Rattle.script.specs.Response.{Body, in_script_order}
use Rattle.script.specs.Outcome.{ResponseOutcome, ScriptOutcome, given, offset_of, response_outcome, response_within, said, script_outcome}
use Rattle.outcome.specs.Derived.{FirstUnderived, ListsShown, blank_area, no_totals, shown_area, terms_of, totals}
use Rattle.outcome.specs.Evaluated.{ran_with, run_outcome}
use Rattle.outcome.specs.declared.Outcome.{Outcome}

-- An answer that names a text and a place, and has no units.
abbrev pub refusal_with : (number text place second : ℕ) → Outcome
refusal_with number text place second = record { number = number; text = text; place = place; second = second; units = 0 }

-- The same with the second number 0.
abbrev pub refusal : (number text place : ℕ) → Outcome
refusal number text place = refusal_with number text place 0

-- "1 (script, response ..)": a script or a response that is too long, at "its length"; else what comes after them.
abbrev pub lengths_or : (script response : List ℕ) → (later : Option Outcome) → Option Outcome
lengths_or script response later =
    cond (ltb script_limits.bytes (length script)) (some (refusal 1 0 (length script)))
    (cond (ltb response_limits.bytes (length response)) (some (refusal 1 1 (length response))) later)

-- "1 (script, response, points, area)": "script, response or point list too long, or a lent area not of its size", at "its length".
unfoldable pub size_answer : (script response points area : List ℕ) → Option Outcome
size_answer script response points area =
    lengths_or script response
    (cond (ltb most_numbers (length points)) (some (refusal 1 2 (length points)))
    (cond (eqb (length area) area_size) nothing (some (refusal 1 3 (length area)))))

-- The same of the two texts alone.
unfoldable pub length_answer : (script response : List ℕ) → Option Outcome
length_answer script response = lengths_or script response nothing

-- "after any other answer each entry is 65,535, except that an area of wrong size is unchanged".
abbrev pub unshown : (area : List ℕ) → List ℕ
unshown area = cond (eqb (length area) area_size) blank_area area

-- The sizes are right, and both texts pass: what the script says, and the bodies that the response gives.
pub record Passing (script response points area : List ℕ) (k : Known) (bs : List Body) : Type 0 where
  pub sized : size_answer script response points area ≡ nothing
  pub says : script_outcome script ≡ said k
  pub gives : response_outcome k response ≡ given bs

-- Of texts that pass: "then 13 (first such function), 16 (length first), and evaluation", the area afterwards, and the totals: "The total is reported
-- for each function, 0 where none is shown." (E13)
pub data Judgement (response : List ℕ) (k : Known) (bs : List Body) (points : List ℕ) (budget : ℕ) : Outcome → (areaAfter weights : List ℕ) → Type 0 where
  underived : {j : ℕ} {b : Body} → FirstUnderived (in_script_order k.functions) bs j b
      → Judgement response k bs points budget (record { number = 13; text = 1; place = offset_of response b.first; second = j; units = 0 }) blank_area no_totals
  points_refused : {lists : List (List ℕ)} {place : ℕ} → ListsShown (in_script_order k.functions) (terms_of bs) lists
      → points_of (named_sorts k.variables) points ≡ Err place → Judgement response k bs points budget (refusal 16 2 place) blank_area no_totals
  evaluated : {lists : List (List ℕ)} {n : ℕ} → ListsShown (in_script_order k.functions) (terms_of bs) lists
      → points_of (named_sorts k.variables) points ≡ Ok n
      → Judgement response k bs points budget (run_outcome budget (ran_with k (terms_of bs) points n budget)) (shown_area lists)
      (totals (in_script_order k.functions) lists)

-- What refuses one of two texts that are not too long, the response within these limits: "script words ..; commands ..; response words likewise; 10 and 11 ..;
-- the response's commands likewise".
pub data TextsRefused (limits : Limits) (script response : List ℕ) : Outcome → Type 0 where
  script_refused : {number offset second : ℕ} → script_outcome script ≡ ScriptOutcome.faulty number offset second
      → TextsRefused limits script response (refusal_with number 0 offset second)
  response_refused : {k : Known} {number offset : ℕ} → script_outcome script ≡ said k → response_within limits k response ≡ ResponseOutcome.faulty number offset
      → TextsRefused limits script response (refusal number 1 offset)

-- The texts' own answers, without points, a budget or an area: 1 to 12, or 0, which speaks of no text, where both pass.
pub data TextsTold (script response : List ℕ) : Outcome → Type 0 where
  too_long : {answer : Outcome} → length_answer script response ≡ some answer → TextsTold script response answer
  refused : {answer : Outcome} → length_answer script response ≡ nothing → TextsRefused response_limits script response answer → TextsTold script response answer
  both_pass : {k : Known} {bs : List Body} → length_answer script response ≡ nothing → script_outcome script ≡ said k → response_outcome k response ≡ given bs
      → TextsTold script response (refusal 0 3 0)

-- The answer, the area afterwards and the totals. "Order: 1 ..; script words ..; commands ..; response words likewise; 10 and 11 ..; the response's commands
-- likewise ..; then 13 .."
pub data Checked (script response points : List ℕ) (budget : ℕ) (area : List ℕ) : Outcome → (areaAfter weights : List ℕ) → Type 0 where
  missized : {answer : Outcome} → size_answer script response points area ≡ some answer
      → Checked script response points budget area answer (unshown area) no_totals
  texts_refused : {answer : Outcome} → size_answer script response points area ≡ nothing → TextsRefused response_limits script response answer
      → Checked script response points budget area answer blank_area no_totals
  judged : {k : Known} {bs : List Body} {answer : Outcome} {areaAfter weights : List ℕ} → Passing script response points area k bs
      → Judgement response k bs points budget answer areaAfter weights → Checked script response points budget area answer areaAfter weights

-- The same of a call that does not give the totals.
pub record Answered (script response points : List ℕ) (budget : ℕ) (area : List ℕ) (answer : Outcome) (areaAfter : List ℕ) : Type 0 where
  pub weights : List ℕ
  pub checked : Checked script response points budget area answer areaAfter weights

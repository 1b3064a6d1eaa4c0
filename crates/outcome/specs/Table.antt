-- The table of answers: for each number which text it speaks of, what its place and its second number are, and when it has no units.
use Rattle.std.specs.Prelude.{ℕ, ◌≤◌, ◌<◌, List, ◌≡◌, length, Ok, Err}
use Rattle.evaluation.specs.Points.{points_of}
use Rattle.names.specs.Scopes.{named_sorts}
use Rattle.script.specs.Script.{Known}
use Rattle.script.specs.Response.{in_script_order}
use Rattle.script.specs.Outcome.{said, script_outcome}
use Rattle.script.specs.Rows.{AtWord, ResponseRow, ScriptRow}
use Rattle.outcome.specs.Checked.{refusal, refusal_with}
use Rattle.outcome.specs.Demands.{Named, TermNamed}
use Rattle.outcome.specs.declared.Outcome.{Outcome}

-- "1 | script, response or point list too long, or a lent area not of its size | its length; 0": by the text that is named, "0 script, 1 response, 2 points,
-- 3 .. the area".
pub data LengthOf (script response points area : List ℕ) : (text place : ℕ) → Type 0 where
  of_the_script : LengthOf script response points area 0 (length script)
  of_the_response : LengthOf script response points area 1 (length response)
  of_the_points : LengthOf script response points area 2 (length points)
  of_the_area : LengthOf script response points area 3 (length area)

-- An answer of the table. `refusal` has the second number 0 and no units: "0 outside 0, 14 and 15". "Each answer also says which text it speaks of (0 script, 1
-- response, 2 points, 3 none or the area; 10 to 13 the response, 14 to 16 the points, 0 none)". The rows of 2 to 12 are those of the two texts.
-- "0 | accepted | 0; points done": "0's second number now counts the points whose assumptions all held" (E1), of those done; which they are says
-- `Demands: AllDone`
-- "13 | no derivation | body's first word; function"
-- "14 | constraint false | point; constraint"
-- "15 | budget ended | point; constraint": "15 numbers assumptions from 64" (E1)
-- "16 | point list not whole points, or value outside its sort | list length, or first bad index; 0"
pub data AnswerRow (script response points area : List ℕ) : Outcome → Type 0 where
  accepted : {k : Known} {done held units : ℕ} → script_outcome script ≡ said k → points_of (named_sorts k.variables) points ≡ Ok done → held ≤ done
      → AnswerRow script response points area (record { number = 0; text = 3; place = 0; second = held; units = units })
  too_long : {text place : ℕ} → LengthOf script response points area text place → AnswerRow script response points area (refusal 1 text place)
  of_script : {number place second : ℕ} → ScriptRow script number place second → AnswerRow script response points area (refusal_with number 0 place second)
  of_response : {number place : ℕ} → ResponseRow response number place → AnswerRow script response points area (refusal number 1 place)
  no_derivation : {k : Known} {place function : ℕ} → script_outcome script ≡ said k → AtWord response place → function < length (in_script_order k.functions)
      → AnswerRow script response points area (record { number = 13; text = 1; place = place; second = function; units = 0 })
  constraint_false : {k : Known} {point constraint units : ℕ} → script_outcome script ≡ said k → Named k points point constraint
      → AnswerRow script response points area (record { number = 14; text = 2; place = point; second = constraint; units = units })
  budget_ended : {k : Known} {done point term units : ℕ} → script_outcome script ≡ said k → points_of (named_sorts k.variables) points ≡ Ok done
      → point < done → TermNamed k term
      → AnswerRow script response points area (record { number = 15; text = 2; place = point; second = term; units = units })
  bad_points : {k : Known} {place : ℕ} → script_outcome script ≡ said k → points_of (named_sorts k.variables) points ≡ Err place → place ≤ length points
      → AnswerRow script response points area (refusal 16 2 place)

-- Where the place of an answer stands in its text, and the answer in sixteen numbers.
use Rattle.std.specs.Prelude.{ℕ, Bool, true, cond, ◌&&◌, ◌||◌, List, ◌∷◌, ◌≡◌, eqb, leb, length}
use Rattle.forest.specs.Lists.{among}
use Rattle.words.specs.Positions.{column_of, end_of, line_of}
use Rattle.words.specs.Spans.{word_starts}
use Rattle.words.specs.Words.{word_at}
use Rattle.outcome.specs.Checked.{Checked, TextsTold}
use Rattle.outcome.specs.Derived.{no_totals}
use Rattle.outcome.specs.declared.Answer.{Answer}
use Rattle.outcome.specs.declared.Location.{Location}
use Rattle.outcome.specs.declared.Outcome.{Outcome}

-- "Answers 2 to 9, 12 and 13 carry the new numbers" (E6)
abbrev pub carries : (number : ℕ) → Bool
carries number = leb 2 number && leb number 9 || eqb number 12 || eqb number 13

-- The end of the word at a place of a text, and the line and the column of the place.
abbrev pub location_in : (text : List ℕ) (place : ℕ) → Location
location_in text place = record { end = end_of text place; line = line_of text place; column = column_of text place }

-- "the other answers carry 0" (E6)
abbrev pub no_location : Location
no_location = record { end = 0; line = 0; column = 0 }

-- The text that such an answer speaks of: "0 script, 1 response".
abbrev pub spoken_of : (script response : List ℕ) → Outcome → List ℕ
spoken_of script response o = cond (eqb o.text 0) script response

-- What an answer on a script and a response carries, of its place in the text that it speaks of.
unfoldable pub located : (script response : List ℕ) → Outcome → Location
located script response o = cond (carries o.number) (location_in (spoken_of script response o) o.place) no_location

-- The end of what stands at a place: of the word that starts there, as the reader of words has it, or of the text, where the place is its length.
pub data EndAt (text : List ℕ) (place : ℕ) : (end : ℕ) → Type 0 where
  of_word : among place (word_starts text) ≡ true → EndAt text place (word_at text place).end
  of_text : place ≡ length text → EndAt text place (length text)

-- An answer carries what is to be carried of its place.
abbrev pub Carrying : (script response : List ℕ) → Answer → Type 0
Carrying script response answer = answer.location ≡ located script response answer.outcome

-- An answer that carries nothing, and after which no list is shown.
abbrev pub unlocated : Outcome → Answer
unlocated o = record { outcome = o; location = no_location; totals = no_totals }

-- The answer with what it carries and the totals, and the area afterwards.
pub record AnswerGiven (script response points : List ℕ) (budget : ℕ) (area : List ℕ) (answer : Answer) (areaAfter : List ℕ) : Type 0 where
  pub checked : Checked script response points budget area answer.outcome areaAfter answer.totals
  pub carried : Carrying script response answer

-- The texts' own answer with what it carries; no list is shown.
pub record TextsAnswerGiven (script response : List ℕ) (answer : Answer) : Type 0 where
  pub told : TextsTold script response answer.outcome
  pub carried : Carrying script response answer
  pub unweighed : answer.totals ≡ no_totals

-- An answer in sixteen numbers: its number, text, place, second number and units; the end, the line and the column that it carries; and the
-- totals of eight functions.
abbrev pub answer_numbers : Answer → List ℕ
answer_numbers answer =
    let o = answer.outcome in
    let l = answer.location in
    o.number ∷ o.text ∷ o.place ∷ o.second ∷ o.units ∷ l.end ∷ l.line ∷ l.column ∷ answer.totals

-- What C is given: the answer's number, the sixteen numbers, and the area afterwards.
pub record AnswerForC (script response points : List ℕ) (budget : ℕ) (area : List ℕ) (number : ℕ) (numbers areaAfter : List ℕ) : Type 0 where
  pub answer : Answer
  pub answered : AnswerGiven script response points budget area answer areaAfter
  pub number_is : number ≡ answer.outcome.number
  pub numbers_are : numbers ≡ answer_numbers answer

-- The same of the texts' own answer.
pub record TextsAnswerForC (script response : List ℕ) (number : ℕ) (numbers : List ℕ) : Type 0 where
  pub answer : Answer
  pub given : TextsAnswerGiven script response answer
  pub number_is : number ≡ answer.outcome.number
  pub numbers_are : numbers ≡ answer_numbers answer
